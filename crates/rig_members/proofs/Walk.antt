-- A walk of a set's members among the sites 1 to n: what one turn does, and what the whole walk does to anything that is built up site by
-- site and that only members change.
use Prim.Native.Nat.{ℕ, zero, suc, ◌-◌, ◌^◌, ◌≤◌, ◌<◌}
use mathlib.Core.Bool.{true, false, cond}
use mathlib.Core.Logic.{◌≢◌}
use mathlib.Core.Path.{◌≡◌, refl, sym, ap, ◌∙◌}
use native.Mathlib.Nat.{sub-le}
use native.Mathlib.Omega.{arith}
use lib.Count.{count_trailing_zeros}
use lib.Dec.{eqb, ltb}
use lib.Pow.{pow_mono}
use borrow.Author.Tests.{ne_eqb, eqb-true, eqb-false, ltb-true, ltb-false}
use Rattle.basics.specs.Helpers.{count}
use Rattle.basics.proofs.Basics.{by_bool, clash, count-without}
use Rattle.model.specs.Sets.{member}
use Rattle.rig_members.specs.Walk.{word_bits, within, lowest_member, without_member}
use Rattle.rig_members.proofs.Members.{member-zero, member-placed, member-within, within-short, within_all, LowestAt, lowest-at}

-- How far a walk is: the sites below the lowest member left, all n where none is left.
unfoldable pub passed_to : ℕ → ℕ → ℕ
passed_to n left = cond (eqb left 0) n (lowest_member left - 1)

pub passed-all : (n : ℕ) → passed_to n 0 ≡ n
unfolding passed_to
passed-all n = refl

passed-some : (n left : ℕ) {t : ℕ} → 0 < left → LowestAt left t → passed_to n left ≡ t
unfolding passed_to
passed-some n left p l = rw (ne_eqb left 0 (λ e. omega arith), l.lowest) (omega arith)

-- none of the members left is among them
passed_none : (n left j : ℕ) → left < 2 ^ word_bits → 1 ≤ j → j ≤ passed_to n left → member left j ≡ false
passed_none n left j h f g =
    by_bool (eqb left 0)
    (λ e. rw (eqb-true left 0 e) (member-zero j))
    (λ e.
    let some : 0 < left = omega (arith, eqb-false left 0 e) in
    let l = lowest-at left some h in
    l.below j f (rw (passed-some n left some l) at g))

-- A walk's falling number: how many members are left.
abbrev pub members_left : ℕ → ℕ → ℕ
members_left n left = count (member left) n

-- A walk of the members of a set among the sites 1 to n, at most 64: what is left are its members above the sites passed.
pub record Walk (n set left : ℕ) : Type 0 where
  pub word : n ≤ word_bits
  pub short : left < 2 ^ n
  pub above : (j : ℕ) → passed_to n left < j → j ≤ n → member left j ≡ member set j

-- The turn of a walk for j, the lowest member left: j is the site behind those passed, and a member of the set; what is left without it is a walk
-- again, with one member fewer; no site between j and the next member is in the set.
pub record Turn (n set left j : ℕ) : Type 0 where
  pub next : j ≡ suc (passed_to n left)
  pub index : j - 1 ≡ passed_to n left
  pub high : j ≤ n
  pub visits : member set j ≡ true
  pub takes : member left j ≡ true
  pub again : Walk n set (without_member left j)
  pub fewer : suc (members_left n (without_member left j)) ≡ members_left n left
  pub onward : j ≤ passed_to n (without_member left j)
  pub between : (k : ℕ) → j < k → k ≤ passed_to n (without_member left j) → member set k ≡ false

walk-fits : {n set left : ℕ} → Walk n set left → left < 2 ^ word_bits
walk-fits {n} w = let m = pow_mono {i = n} {j = word_bits} w.word in let s = w.short in omega arith

pub passed-up-to : {n set left : ℕ} → Walk n set left → passed_to n left ≤ n
passed-up-to {n} {set} {left} w =
    by_bool (eqb left 0)
    (λ e. rw (eqb-true left 0 e) (omega (arith, passed-all n)))
    (λ e.
    let some : 0 < left = omega (arith, eqb-false left 0 e) in
    let l = lowest-at left some (walk-fits w) in
    omega (arith, passed-some n left some l, (member-placed n left _ w.short l.has).high))

-- The turn.

module _ {n set left : ℕ} (w : Walk n set left) (some : 0 < left) where
  abbrev t : ℕ
  t = count_trailing_zeros word_bits left

  abbrev rest : ℕ
  rest = without_member left (suc t)

  fits : left < 2 ^ word_bits
  fits = walk-fits w

  low : LowestAt left t
  low = lowest-at left some fits

  rest-short : rest < 2 ^ n
  unfolding without_member
  rest-short = omega (arith, w.short, sub-le left (2 ^ (suc t - 1)))

  rest-fits : rest < 2 ^ word_bits
  rest-fits = let m = pow_mono {i = n} {j = word_bits} w.word in omega (arith, rest-short)

  passed-before : passed_to n left ≡ t
  passed-before = passed-some n left some low

  place : suc t ≤ n
  place = (member-placed n left (suc t) w.short low.has).high

  on : suc t ≤ passed_to n rest
  on =
      by_bool (eqb rest 0)
      (λ e. rw (eqb-true rest 0 e, passed-all) place)
      (λ e.
      let more : 0 < rest = omega (arith, eqb-false rest 0 e) in
      let l = lowest-at rest more rest-fits in
      let u = count_trailing_zeros word_bits rest in
      rw (passed-some n rest more l)
      (by_bool (ltb t u)
      (λ b. ltb-true t u b)
      (λ b. clash (member rest (suc u)) l.has (low.gone (suc u) (omega arith) (omega (arith, ltb-false t u b))))))

  between-false : (k : ℕ) → suc t < k → k ≤ passed_to n rest → k ≤ n → member set k ≡ false
  between-false k f g h = sym (w.above k (rw passed-before (omega arith)) h) ∙ sym (low.kept k f) ∙ passed_none n rest k rest-fits (omega arith) g

  rest-above : (k : ℕ) → passed_to n rest < k → k ≤ n → member rest k ≡ member set k
  rest-above k f g = low.kept k (omega (arith, on)) ∙ w.above k (rw passed-before (omega (arith, on))) g

  rest-other : (k : ℕ) → 1 ≤ k → k ≢ suc t → member rest k ≡ member left k
  rest-other k f ne =
      by_bool (ltb k (suc t))
      (λ b. let l = ltb-true k (suc t) b in low.gone k f (omega arith) ∙ sym (low.below k f (omega arith)))
      (λ b. let l = ltb-false k (suc t) b in low.kept k (omega arith))

  next-walk : Walk n set rest
  next-walk = record { word = w.word; short = rest-short; above = rest-above }

  lowest-turn : Turn n set left (lowest_member left)
  lowest-turn = rw low.lowest (record {
    next = ap suc (sym passed-before);
    index = omega (arith, passed-before);
    high = place;
    visits = sym (w.above (suc t) (rw passed-before (omega arith)) place) ∙ low.has;
    takes = low.has;
    again = next-walk;
    fewer = count-without (member rest) (member left) n (suc t) (omega arith) place (low.gone (suc t) (omega arith) (omega arith)) low.has rest-other;
    onward = on;
    between = λ k f g. between-false k f g (omega (arith, passed-up-to next-walk));
  })

-- as the code has it: the site that it takes, and what it leaves
pub turn : {n set left j : ℕ} → Walk n set left → 0 < left → j ≡ lowest_member left → Turn n set left j
turn w some e = rw e (lowest-turn w some)

pub turn-again : {n set left j after : ℕ} → Turn n set left j → after ≡ without_member left j → Walk n set after
turn-again u e = rw e u.again

pub turn-less : {n set left j after : ℕ} → Turn n set left j → after ≡ without_member left j → members_left n after < members_left n left
turn-less u e = rw e (omega (arith, u.fewer))

-- The whole walk.

pub walk_begins : (n set : ℕ) {left : ℕ} → n ≤ word_bits → left ≡ within n set → Walk n set left
unfolding passed_to
walk_begins n set h e = rw e (record {
  word = h;
  short = within-short n set;
  above = λ j f g. member-within n set j (omega arith) g;
})

-- of a whole word
pub walk-whole : (set : ℕ) → set < 2 ^ word_bits → Walk word_bits set set
walk-whole set h = walk_begins word_bits set (omega arith) (sym (within_all set h))

-- What is built up from site to site, F i being what the sites 1 to i give, and what only members of the set change: a walk that has a turn for
-- each member builds up the same.
module _ {A : Type 0} (F : ℕ → A) (n set : ℕ) (idle : (i : ℕ) → i < n → member set (suc i) ≡ false → F (suc i) ≡ F i) where
  still : (i k : ℕ) → i ≤ k → k ≤ n → ((j : ℕ) → i < j → j ≤ k → member set j ≡ false) → F k ≡ F i
  still i zero a b f = ap F (omega arith)
  still i (suc k) a b f =
      by_bool (eqb i (suc k))
      (λ e. ap F (sym (eqb-true i (suc k) e)))
      (λ e.
      let ne = eqb-false i (suc k) e in
      idle k b (f (suc k) (omega arith) (omega arith)) ∙ still i k (omega arith) (omega arith) (λ j x y. f j x (omega arith)))

  first : n ≤ word_bits → F (passed_to n (within n set)) ≡ F 0
  first h =
      let w = walk_begins n set h refl in
      let up = passed-up-to w in
      still 0 (passed_to n (within n set)) (omega arith) up
      (λ j f g. sym (member-within n set j f (omega arith)) ∙ passed_none n (within n set) j (walk-fits w) f g)

  -- nothing is built up before the first turn
  pub walk_first : {left : ℕ} → n ≤ word_bits → left ≡ within n set → F (passed_to n left) ≡ F 0
  walk_first h e = ap (λ l. F (passed_to n l)) e ∙ first h

  -- a turn for the lowest member left builds it up by one site, and the sites up to the next member change nothing
  pub walk-next : {left j after : ℕ} → Turn n set left j → after ≡ without_member left j → F (passed_to n after) ≡ F (suc (passed_to n left))
  walk-next {left} {j} u e = ap (λ l. F (passed_to n l)) e ∙ still j _ u.onward (passed-up-to u.again) u.between ∙ ap F u.next

  -- where none is left, it is built up from all n sites
  pub walk-last : {left : ℕ} → left ≡ 0 → F (passed_to n left) ≡ F n
  walk-last e = ap F (ap (passed_to n) e ∙ passed-all n)
