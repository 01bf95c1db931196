-- How long numbers, lists of numbers and lines are.
use Prim.Native.Nat.{ℕ, zero, suc, ◌+◌, ◌*◌, ◌/◌, ◌^◌, ◌≤◌, ◌<◌}
use mathlib.Core.Bool.{Bool, true}
use mathlib.Core.List.{List, [], ◌∷◌, ◌++◌, append_assoc, append-nil}
use mathlib.Core.Path.{◌≡◌, refl}
use native.Mathlib.Omega.{arith}
use borrow.Author.Tests.{lt-ltb}
use lib.Dec.{ltb}
use lib.ListN.{length, length-append}
use Rattle.basics.proofs.Basics.{by_bool}
use Rattle.rig.specs.Limits.{site_limit}
use Rattle.model.specs.Sets.{member}
use Rattle.model.specs.Tables.{at}
use Rattle.player_bytes.specs.Decimal.{digits, decimal}
use Rattle.rig_members.specs.Walk.{members_up_to}
use Rattle.plan_lines.specs.Lines.{list_text}
use Rattle.save_lines.specs.Lines.{Field, field, field_text, fields_text}
use Rattle.save_entries.specs.Entries.{entries_up_to}
use Rattle.save_text.specs.Text.{each_up_to}

-- a number below 10 ^ k has at most k digits, but one at least
digits-short : (places k n : ℕ) → n < 10 ^ suc k → length (digits places n) ≤ suc k
unfolding digits
digits-short zero k n h = omega arith
digits-short (suc places) zero n h = rw (lt-ltb n 10 (omega arith)) (omega arith)
digits-short (suc places) (suc k) n h =
    by_bool (ltb n 10)
    (λ e. rw e (omega arith))
    (λ e. let l = digits-short places k (n / 10) (omega arith) in rw e (simp length-append (omega arith)))

pub decimal-short : (k n : ℕ) → n < 10 ^ suc k → length (decimal n) ≤ suc k
unfolding decimal
decimal-short k n h = digits-short 20 k n h

-- the bytes of a list of numbers, with a comma behind each
unfoldable pub weight : List ℕ → ℕ
weight [] = 0
weight (n ∷ ns) = suc (length (decimal n)) + weight ns

-- the last number has byte 10 behind it, and no comma
list_length : (n : ℕ) (ns : List ℕ) → suc (length (list_text (n ∷ ns))) ≡ weight (n ∷ ns)
unfolding weight list_text
list_length n [] = omega arith
list_length n (m ∷ ns) = let l = list_length m ns in simp length-append (omega arith)

pub field-short : (word ns : List ℕ) (w : ℕ) → weight ns ≤ w → 1 ≤ w → length (field_text (field word ns)) ≤ length word + w
unfolding field_text list_text
field-short word [] w h l = simp length-append (omega arith)
field-short word (n ∷ ns) w h l = let e = list_length n ns in simp length-append (omega arith)

-- a line of one number
pub one-short : (word : List ℕ) (n w : ℕ) → length (decimal n) ≤ w → length (field_text (field word (n ∷ []))) ≤ length word + (w + 1)
unfolding weight
one-short word n w h = field-short word (n ∷ []) (w + 1) (omega arith) (omega arith)

weight-append : (ns ms : List ℕ) → weight (ns ++ ms) ≡ weight ns + weight ms
unfolding weight
weight-append [] ms = omega arith
weight-append (n ∷ ns) ms = let e = weight-append ns ms in omega arith

-- the entries of a row, each of at most w bytes
pub entries-short :
    (p : ℕ → Bool) (row : List ℕ) (w i : ℕ)
    → ((k : ℕ) → 1 ≤ k → k ≤ i → p k ≡ true → length (decimal (at 0 row k)) ≤ w)
    → weight (entries_up_to p row i) ≤ suc w * i
unfolding entries_up_to weight
entries-short p row w zero h = omega arith
entries-short p row w (suc i) h =
    let s = entries-short p row w i (λ k a b e. h k a (omega arith) e) in
    by_bool (p (suc i))
    (λ e. let l = h (suc i) (omega arith) (omega arith) e in rw (e, weight-append) (omega arith))
    (λ e. rw (e, append-nil) (omega arith))

-- all members that a set may have
unfoldable full_weight : ℕ → ℕ
full_weight zero = 0
full_weight (suc i) = full_weight i + suc (length (decimal (suc i)))

members-within : (set i : ℕ) → weight (members_up_to set i) ≤ full_weight i
unfolding members_up_to weight full_weight
members-within set zero = omega arith
members-within set (suc i) =
    let s = members-within set i in
    by_bool (member set (suc i))
    (λ e. rw (e, weight-append) (omega arith))
    (λ e. rw (e, append-nil) (omega arith))

full-set : full_weight site_limit ≡ 84
unfolding full_weight decimal digits
full-set = refl

pub members-short : (set : ℕ) → weight (members_up_to set site_limit) ≤ 84
members-short set = rw full-set at (members-within set site_limit)

-- lines one after the other
pub fields-append : (fs gs : List Field) → fields_text (fs ++ gs) ≡ fields_text fs ++ fields_text gs
unfolding fields_text
fields-append [] gs = refl
fields-append (f ∷ fs) gs = rw (fields-append fs gs, append_assoc)

pub fields-length : (fs gs : List Field) → length (fields_text (fs ++ gs)) ≡ length (fields_text fs) + length (fields_text gs)
fields-length fs gs = rw (fields-append, length-append)

-- the fields of the sites 1 to n, each site's of at most w bytes
pub each-short :
    (f : ℕ → List Field) (w n : ℕ) → ((k : ℕ) → 1 ≤ k → k ≤ n → length (fields_text (f k)) ≤ w) → length (fields_text (each_up_to f n)) ≤ w * n
unfolding each_up_to fields_text
each-short f w zero h = omega arith
each-short f w (suc i) h =
    let s = each-short f w i (λ k a b. h k a (omega arith)) in
    let l = h (suc i) (omega arith) (omega arith) in
    rw fields-length (omega arith)
