-- What the parts of `event` have done, put together.
use Prim.Native.Nat.{ℕ, zero, suc, ◌+◌, ◌-◌, ◌≤◌}
use mathlib.Core.Path.{◌≡◌, sym, ap, subst, ◌∙◌}
use mathlib.Core.List.{List, ◌∷◌, ◌++◌, map}
use mathlib.Core.Logic.{◌⊎◌, inl, inr}
use native.Mathlib.Omega.{arith}
use lib.Dec.{eqb, ltb}
use lib.ListN.{length, take, drop, replicate, length-map, length-replicate}
use lib.Seq.{paste}
use borrow.Author.Tests.{eqb-true, ltb-true, ltb-false, eq-eqb, le-ltb}
use Rattle.basics.proofs.Basics.{by_bool}
use Rattle.rig.specs.declared.Rig.{Rig}
use Rattle.rig.specs.declared.Event.{Event}
use Rattle.rig.specs.declared.Message.{Message}
use Rattle.rig.specs.declared.Answer.{Answer}
use Rattle.rig.specs.Limits.{message_limit}
use Rattle.model.specs.Event as M
use Rattle.model.specs.State.{tables, stored}
use Rattle.list_rows.specs.Rows.{row_of, message_of, zero_row, zero_rows, ZeroPast}
use Rattle.list_rows.specs.State.{stored as in_rows}
use Rattle.list_exchange.proofs.Zeros.{pasted-blank}
use Rattle.list_lent.specs.First.{first_in}
use Rattle.event_sites.specs.Places.{sender_of, receiver_of}
use Rattle.event_rows.specs.Tested.{tested_with}
use Rattle.engine_parts.specs.Parts.{list_code, read_of, changed_from}
use Rattle.engine.specs.Lent.{answered}
use Rattle.engine.proofs.Lent.{relisted, read-rows, from-fits, from-long, composed}

-- where the list's code is 0, its length is 1,024 and its count at most that
code-passes : (n len : ℕ) → list_code n len ≡ 0 → (len ≡ message_limit) × (n ≤ message_limit)
code-passes n len h =
    by_bool (eqb len message_limit)
    (λ a. by_bool (ltb message_limit n)
    (λ b. let z : ◌≡◌ {A = ℕ} 10 0 = rw (a, b) at h in absurd (omega arith))
    (λ b. (eqb-true len message_limit a, ltb-false message_limit n b)))
    (λ a. let z : ◌≡◌ {A = ℕ} 13 0 = rw a at h in absurd (omega arith))

pub code-few : (n len : ℕ) → list_code n len ≡ 0 → n ≤ message_limit
code-few n len h = (code-passes n len h).1

-- no message past the list's end is read, and none past the 1,024th
pub read-few : (n len : ℕ) → read_of (list_code n len) n ≤ message_limit
read-few n len = by_bool (eqb (list_code n len) 0) (λ a. rw a (code-few n len (eqb-true _ 0 a))) (λ a. rw a (omega arith))

pub read-in : (n : ℕ) (ys : List Message) → read_of (list_code n (length ys)) n ≤ length ys
read-in n ys =
    by_bool (eqb (list_code n (length ys)) 0)
    (λ a. let p = code-passes n (length ys) (eqb-true _ 0 a) in rw a (omega (arith, p.0, p.1)))
    (λ a. rw a (omega arith))

-- rows of zeros are zeros from each place on
zeros : (n m : ℕ) → take n (replicate m zero_row) ++ replicate (m - n) zero_row ≡ replicate m zero_row
zeros zero m = let e : m - 0 ≡ m = omega arith in ap (λ (i : ℕ). replicate i zero_row) e
zeros (suc n) zero = let e : 0 - suc n ≡ 0 = omega arith in ap (λ (i : ℕ). replicate i zero_row) e
zeros (suc n) (suc m) = let e : suc m - suc n ≡ m - n = omega arith in rw e (ap (λ (r : List (List ℕ)). zero_row ∷ r) (zeros n m))

blank-past : (n : ℕ) → ZeroPast n zero_rows
blank-past n = ap (λ (i : ℕ). take n zero_rows ++ replicate (i - n) zero_row) (length-replicate message_limit zero_row) ∙ zeros n message_limit

-- past the count, the rows read from a list are zeros: it is the number of rows read, or no row is read
rows-past : (n : ℕ) (ys : List Message) → ZeroPast n (paste zero_rows 0 (map row_of ys) (read_of (list_code n (length ys)) n))
rows-past n ys =
    by_bool (eqb (list_code n (length ys)) 0)
    (λ a. let p = code-passes n (length ys) (eqb-true _ 0 a) in
    let l = length-replicate message_limit zero_row in
    let z : 0 + n ≡ n = omega arith in
    rw a
    (subst (λ (i : ℕ). ZeroPast i (paste zero_rows 0 (map row_of ys) n)) z
    (pasted-blank 0 zero_rows (map row_of ys) n (omega (arith, p.1)) (rw length-map (omega (arith, p.0, p.1))) (blank-past 0))))
    (λ a. rw a (blank-past n))

-- the rows read from a list of full length say which of its messages are under way
pub same_read : (n : ℕ) (ys : List Message) (blank before : List (List ℕ)) → blank ≡ zero_rows → before ≡ paste blank 0 (map row_of ys) (read_of (list_code n (length ys)) n)
    → length ys ≡ message_limit → n ≤ message_limit → take n (map message_of before) ≡ take n ys
same_read n ys blank before p q f k =
    let all : read_of (list_code n (length ys)) n ≡ n = rw (eq-eqb (length ys) message_limit f, le-ltb message_limit n k) in
    rw (q, p, all) (read-rows ys n (omega arith) k)

pub zero-past : (n : ℕ) (ys : List Message) (blank before : List (List ℕ)) → blank ≡ zero_rows → before ≡ paste blank 0 (map row_of ys) (read_of (list_code n (length ys)) n) → ZeroPast n before
zero-past n ys blank before p q = rw (q, p) (rows-past n ys)

module _ (g : Rig) (ts : List (List (List ℕ))) (ys : List Message) (n : ℕ) (e : Event) (r : Answer) (ts' : List (List (List ℕ))) (blank before after : List (List ℕ)) where
  abbrev read : ℕ
  read = read_of (list_code n (length ys)) n

  abbrev start : ℕ → ℕ
  start code = changed_from code (first_in (sender_of e) (receiver_of e) (take read ys)) n (length ys)

  module _ (blank-is : blank ≡ zero_rows) (before-is : before ≡ paste blank 0 (map row_of ys) read)
      (said : M.answer r.code (in_rows r.rig ts' after r.count) ≡ tested_with (list_code n (length ys)) (in_rows g ts before n) e) where
    same : length ys ≡ message_limit → n ≤ message_limit → take n (map message_of before) ≡ take n ys
    same = same_read n ys blank before blank-is before-is

    code_is : r.code ≡ (tested_with (list_code n (length ys)) (in_rows g ts before n) e).code
    code_is = ap (λ (a : M.Answer). a.code) said

    pub from_in : start r.code ≤ length ys
    from_in = rw code_is (from-fits (tables g ts) ys (map message_of before) n e same)

    -- the list's end, or a list as long as the rows
    pub from-full : length after ≡ message_limit → (start r.code ≡ length ys) ⊎ (length ys ≡ length after)
    from-full l =
        by_bool (ltb (start r.code) (length ys))
        (λ h. inr (from-long (tables g ts) ys (map message_of before) n e same (rw code_is at (ltb-true (start r.code) (length ys) h)) ∙ sym l))
        (λ h. let a = from_in in let b = ltb-false (start r.code) (length ys) h in inl (omega arith))

    -- the list as it is rewritten from an answer
    abbrev rewritten : M.Answer → M.Answer
    rewritten a = relisted (paste ys (start a.code) (drop (start a.code) a.next.list) (length ys - start a.code)) a

    pub joined : (zs : List Message) → zs ≡ paste ys (start r.code) (drop (start r.code) (map message_of after)) (length ys - start r.code)
        → answered r ts' zs ≡ M.event (stored g ts ys n) e
    joined zs h = ap (answered r ts') h ∙ ap rewritten said ∙ composed (tables g ts) ys (map message_of before) n e same
