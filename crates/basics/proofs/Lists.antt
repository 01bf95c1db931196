-- Laws of the list under way: how many of its messages pass a test, what all of them satisfy, and what both become when one is taken
-- off or appended. An event removes one message and appends at the end; nothing else ever changes the list.
use Prim.Native.Nat.{ℕ, zero, suc, ◌+◌, ◌≤◌, ◌<◌}
use mathlib.Core.Path.{◌≡◌, refl, ap, ◌∙◌}
use mathlib.Core.Bool.{Bool, true, false}
use mathlib.Core.List.{List, [], ◌∷◌, ◌++◌, map, append_assoc}
use mathlib.Core.Option.{some}
use native.Mathlib.Omega.{arith}
use lib.ListN.{length, take, drop, get_or, set, replicate}
use lib.Seq.{take-suc, set_at, length-take-le}
use Rattle.basics.specs.Helpers.{tally, first, without_first, All}
use Rattle.basics.proofs.Basics.{by_bool}

-- 1 for a test that passes
abbrev pub indicator : Bool → ℕ
indicator true = 1
indicator false = 0

module _ {A : Type 0} where
  -- one more at the front
  pub tally-cons : (p : A → Bool) (x : A) (xs : List A) → tally p (x ∷ xs) ≡ indicator (p x) + tally p xs
  unfolding tally
  tally-cons p x xs = by_bool (p x) (λ e. rw e (omega arith)) (λ e. rw e (omega arith))

  -- one more at the end
  pub tally-snoc : (p : A → Bool) (xs : List A) (x : A) → tally p (xs ++ x ∷ []) ≡ tally p xs + indicator (p x)
  unfolding tally
  tally-snoc p [] x = by_bool (p x) (λ e. rw e) (λ e. rw e)
  tally-snoc p (y ∷ xs) x = let ih = tally-snoc p xs x in by_bool (p y) (λ e. rw e (omega arith)) (λ e. rw e (omega arith))

  -- one more at the end that does not pass
  pub tally-snoc-no : (p : A → Bool) (xs : List A) (x : A) → p x ≡ false → tally p (xs ++ x ∷ []) ≡ tally p xs
  tally-snoc-no p xs x e = let w = rw e at (tally-snoc p xs x) in omega arith

  -- one more at the end that passes
  pub tally-snoc-yes : (p : A → Bool) (xs : List A) (x : A) → p x ≡ true → tally p (xs ++ x ∷ []) ≡ suc (tally p xs)
  tally-snoc-yes p xs x e = let w = rw e at (tally-snoc p xs x) in omega arith

  -- every element
  pub all_snoc : (P : A → Type 0) (xs : List A) (x : A) → All P xs → P x → All P (xs ++ x ∷ [])
  unfolding All
  all_snoc P [] x a h = (h, tt)
  all_snoc P (y ∷ xs) x a h = (a.0, all_snoc P xs x a.1 h)

  pub all_append : (P : A → Type 0) (xs ys : List A) → All P xs → All P ys → All P (xs ++ ys)
  unfolding All
  all_append P [] ys a b = b
  all_append P (x ∷ xs) ys a b = (a.0, all_append P xs ys a.1 b)

  pub all_map : (P Q : A → Type 0) (xs : List A) → ((x : A) → P x → Q x) → All P xs → All Q xs
  unfolding All
  all_map P Q [] f a = tt
  all_map P Q (x ∷ xs) f a = (f x a.0, all_map P Q xs f a.1)

  -- as above, where a test is known to fail everywhere
  pub all-map-not : (P Q : A → Type 0) (p : A → Bool) (xs : List A) → tally p xs ≡ 0 → ((x : A) → p x ≡ false → P x → Q x) → All P xs → All Q xs
  unfolding All tally
  all-map-not P Q p [] c f a = tt
  all-map-not P Q p (x ∷ xs) c f a =
      by_bool (p x)
      (λ e. let z = rw e at c in absurd (omega arith))
      (λ e. (f x e a.0, all-map-not P Q p xs (rw e at c) f a.1))

  -- some entry passes, and satisfies what all do
  pub all-some : (P : A → Type 0) (p : A → Bool) (xs : List A) → All P xs → 0 < tally p xs → (x : A) × (p x ≡ true) × P x
  unfolding All tally
  all-some P p [] a c = absurd (omega arith)
  all-some P p (x ∷ xs) a c =
      by_bool (p x)
      (λ e. (x, e, a.0))
      (λ e. all-some P p xs a.1 (rw e at c))

  -- none has the mark
  pub all_none : (P : A → Type 0) (p : A → Bool) (xs : List A) → All P xs → ((x : A) → P x → p x ≡ false) → tally p xs ≡ 0
  unfolding All tally
  all_none P p [] a f = refl
  all_none P p (x ∷ xs) a f = rw (f x a.0) (all_none P p xs a.1 f)

  -- what is found passes
  pub first_holds : (p : A → Bool) (xs : List A) (x : A) → first p xs ≡ some x → p x ≡ true
  unfolding first
  first_holds p [] x e = let z : ◌≡◌ {A = ℕ} 0 1 = cc in absurd (omega arith)
  first_holds p (y ∷ xs) x e =
      by_bool (p y)
      (λ t. let q : y ≡ x = cc in rw q at t)
      (λ t. first_holds p xs x (rw t at e))

  -- to take off and put in front changes no tally
  pub tally-without : (p q : A → Bool) (xs : List A) (x : A) → first p xs ≡ some x → tally q (x ∷ without_first p xs) ≡ tally q xs
  unfolding first without_first tally
  tally-without p q [] x e = let z : ◌≡◌ {A = ℕ} 0 1 = cc in absurd (omega arith)
  tally-without p q (y ∷ xs) x e =
      by_bool (p y)
      (λ t. let w : y ≡ x = cc in rw (t, w))
      (λ t. let ih = tally-without p q xs x (rw t at e) in
      rw t (by_bool (q x) (λ u. by_bool (q y) (λ s. rw (u, s) (let ih' = rw u at ih in omega arith)) (λ s. rw (u, s) (let ih' = rw u at ih in omega arith)))
      (λ u. by_bool (q y) (λ s. rw (u, s) (let ih' = rw u at ih in omega arith)) (λ s. rw (u, s) (let ih' = rw u at ih in omega arith)))))

  -- to take off and put in front keeps what all satisfy
  pub all_without : (p : A → Bool) (P : A → Type 0) (xs : List A) (x : A) → first p xs ≡ some x → All P xs → All P (x ∷ without_first p xs)
  unfolding first without_first All
  all_without p P [] x e a = let z : ◌≡◌ {A = ℕ} 0 1 = cc in absurd (omega arith)
  all_without p P (y ∷ xs) x e a =
      by_bool (p y)
      (λ t. let w : y ≡ x = cc in rw (t, ← w) a)
      (λ t. let ih = all_without p P xs x (rw t at e) a.1 in rw t (ih.0, (a.0, ih.1)))

  -- of what passes at the end, of what passed before
  pub snoc-pos : (p : A → Bool) (xs : List A) (x : A) → p x ≡ true → 0 < tally p (xs ++ x ∷ [])
  snoc-pos p xs x e = rw (tally-snoc-yes p xs x e) (omega arith)

  pub snoc-keep : (p : A → Bool) (xs : List A) (x : A) → 0 < tally p xs → 0 < tally p (xs ++ x ∷ [])
  snoc-keep p xs x l = let w = tally-snoc p xs x in omega arith

  pub snoc-zero : (p : A → Bool) (xs : List A) (x : A) → tally p (xs ++ x ∷ []) ≡ 0 → tally p xs ≡ 0
  snoc-zero p xs x l = let w = tally-snoc p xs x in omega arith

  pub snoc-none {ℓ} : {C : Type ℓ} (p : A → Bool) (xs : List A) (x : A) → p x ≡ true → tally p (xs ++ x ∷ []) ≡ 0 → C
  snoc-none p xs x e l = let w = tally-snoc-yes p xs x e in absurd (omega arith)

  -- where one test gives another
  pub tally-mono : (P : A → Type 0) (a b : A → Bool) (xs : List A) → All P xs → ((x : A) → P x → a x ≡ true → b x ≡ true) → tally a xs ≤ tally b xs
  unfolding All tally
  tally-mono P a b [] h f = omega arith
  tally-mono P a b (x ∷ xs) h f =
      let ih = tally-mono P a b xs h.1 f in
      by_bool (a x)
      (λ e. rw (e, f x h.0 e) (omega arith))
      (λ e. by_bool (b x) (λ g. rw (e, g) (omega arith)) (λ g. rw (e, g) ih))

-- the first entries of a list that was made of another
pub take-map : {A B : Type 0} (f : A → B) (n : ℕ) (xs : List A) → take n (map f xs) ≡ map f (take n xs)
take-map f zero xs = refl
take-map f (suc n) [] = refl
take-map f (suc n) (x ∷ xs) = ap (λ ys. f x ∷ ys) (take-map f n xs)

-- the first i entries and zeros behind them: one entry more, in the place of a 0
pub drop-map : {A B : Type 0} (f : A → B) (n : ℕ) (xs : List A) → drop n (map f xs) ≡ map f (drop n xs)
drop-map f zero xs = refl
drop-map f (suc n) [] = refl
drop-map f (suc n) (x ∷ xs) = drop-map f n xs

pub padded-more : (xs : List ℕ) (i m : ℕ) → i < length xs → set (take i xs ++ replicate (suc m) 0) i (get_or xs i 0) ≡ take (suc i) xs ++ replicate m 0
padded-more xs i m h =
    set_at (take i xs) 0 (replicate m 0) (get_or xs i 0) i (length-take-le i xs (omega arith))
    ∙ rw (take-suc xs i 0 h, append_assoc)
