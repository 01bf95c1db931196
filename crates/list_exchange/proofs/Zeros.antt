-- Rows that are zeros from a place on stay so where rows are taken off or put behind.
use Prim.Native.Nat.{ℕ, suc, ◌+◌, ◌-◌, ◌≤◌, ◌<◌}
use mathlib.Core.Path.{◌≡◌, sym, ap, ◌∙◌}
use mathlib.Core.List.{List, ◌∷◌, ◌++◌}
use native.Mathlib.Omega.{arith}
use lib.ListN.{length, take, drop, replicate, length-take, length-drop, length-append, take-append-drop, length-replicate, replicate-append-replicate}
use lib.Seq.{length-take-le, take_at, drop_at, drop-drop, paste, length-paste, take-paste, drop-paste}
use Rattle.list_rows.specs.Rows.{zero_row, cleared, ZeroPast, without}
use Rattle.list_room.proofs.Without.{without-short, without-none, without_all}
use Rattle.list_exchange.specs.Exchange.{taken_out, Exchanged}

-- after one of the first n is taken off, the first n - 1 rows are the others
pub taken-out-rest : (n place : ℕ) (rows : List (List ℕ)) → place < n → n ≤ length rows → take (n - 1) (taken_out n place rows) ≡ without place (take n rows)
taken-out-rest n place rows g h =
    let w : length (without place (take n rows)) ≡ n - 1 = simp (length-append, length-take, length-drop) (omega arith) in
    take_at (without place (take n rows)) (zero_row ∷ drop n rows) (n - 1) w

drop-zeros : (k m : ℕ) → drop k (replicate (k + m) zero_row) ≡ replicate m zero_row
drop-zeros k m =
    ap (λ (r : List (List ℕ)). drop k r) (sym (replicate-append-replicate k m zero_row))
    ∙ drop_at (replicate k zero_row) (replicate m zero_row) k (length-replicate k zero_row)

-- what it says of the rows behind
zeros-behind : (k : ℕ) (rows : List (List ℕ)) → k ≤ length rows → cleared k rows ≡ rows → drop k rows ≡ replicate (length rows - k) zero_row
zeros-behind k rows h e = ap (λ (r : List (List ℕ)). drop k r) (sym e) ∙ drop_at (take k rows) (replicate (length rows - k) zero_row) k (length-take-le k rows h)

from-zeros : (k : ℕ) (rows : List (List ℕ)) → drop k rows ≡ replicate (length rows - k) zero_row → cleared k rows ≡ rows
from-zeros k rows e = ap (λ (r : List (List ℕ)). take k rows ++ r) (sym e) ∙ take-append-drop k rows

-- a message taken off
pub taken-out-blank : (n place : ℕ) (rows : List (List ℕ)) → place < n → n ≤ length rows → cleared n rows ≡ rows → cleared (n - 1) (taken_out n place rows) ≡ taken_out n place rows
taken-out-blank n place rows g h e =
    let l = length rows - n in
    let w = without-short n place rows g h in
    let size : suc l ≡ length (taken_out n place rows) - (n - 1) = simp (length-append, length-take, length-drop) (omega arith) in
    from-zeros (n - 1) (taken_out n place rows)
    (drop_at (without place (take n rows)) (zero_row ∷ drop n rows) (n - 1) w
    ∙ ap (λ (r : List (List ℕ)). zero_row ∷ r) (zeros-behind n rows h e)
    ∙ ap (λ (i : ℕ). replicate i zero_row) size)

-- rows put behind
pub pasted-blank : (k : ℕ) (rows sent : List (List ℕ)) (m : ℕ) → k + m ≤ length rows → m ≤ length sent → cleared k rows ≡ rows → cleared (k + m) (paste rows k sent m) ≡ paste rows k sent m
pasted-blank k rows sent m h g e =
    let size : length rows - k ≡ m + (length rows - (k + m)) = omega arith in
    from-zeros (k + m) (paste rows k sent m)
    (drop-paste rows k sent m (omega arith) g
    ∙ sym (drop-drop m k rows)
    ∙ ap (λ (r : List (List ℕ)). drop m r) (zeros-behind k rows (omega arith) e ∙ ap (λ (i : ℕ). replicate i zero_row) size)
    ∙ drop-zeros m (length rows - (k + m))
    ∙ ap (λ (i : ℕ). replicate (i - (k + m)) zero_row) (sym (length-paste rows k sent m h g)))

pub taken-out-long : (n place : ℕ) (rows : List (List ℕ)) → place < n → n ≤ length rows → length (taken_out n place rows) ≡ length rows
taken-out-long n place rows g h = simp (length-append, length-take, length-drop) (omega arith)

-- What `exchange` does in its two cases.
module _ (n place m : ℕ) (rows sent : List (List ℕ)) (fits : m ≤ length sent) (high : n ≤ length rows) (past : ZeroPast n rows) {r : ℕ} {after : List (List ℕ)} where
  pub exchanged-off : (rest : ℕ) {mid : List (List ℕ)} → place < n → length (without place (take n rows)) + m ≤ length rows → (rest + 1 ≡ n) × (mid ≡ taken_out n place rows)
      → (r ≡ rest + m) × (after ≡ paste mid rest sent m) → Exchanged n place rows sent m r after
  exchanged-off rest {mid} g room t u =
      let w = without-short n place rows g high in
      let e : rest ≡ n - 1 = omega arith in
      let long = taken-out-long n place rows g high in
      record {
        count = omega (arith, u.0);
        list = rw (u.0, u.1, e, t.1) (take-paste (taken_out n place rows) (n - 1) sent m (omega arith) fits ∙ rw (taken-out-rest n place rows g high));
        zeros = rw (u.0, u.1, e, t.1) (pasted-blank (n - 1) (taken_out n place rows) sent m (omega arith) fits (taken-out-blank n place rows g high past));
      }

  pub exchanged-on : place ≡ n → length (without place (take n rows)) + m ≤ length rows
      → (r ≡ n + m) × (after ≡ paste rows n sent m) → Exchanged n place rows sent m r after
  exchanged-on e room u =
      let k = without_all n place rows e high in
      record {
        count = omega (arith, u.0);
        list = rw (u.0, u.1) (take-paste rows n sent m (omega arith) fits ∙ rw (e, without-none n rows));
        zeros = rw (u.0, u.1) (pasted-blank n rows sent m (omega arith) fits past);
      }
