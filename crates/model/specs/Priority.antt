-- Which ask comes first.
use Rattle.std.specs.Prelude.{ℕ, zero, suc, Bool, cond, List, eqb, ltb}
use Rattle.model.specs.Tables.{at}

-- what priority goes by: a sequence number and its site
pub record Key : Type 0 where
  pub seq : ℕ
  pub site : ℕ

abbrev pub key : ℕ → ℕ → Key
key s k = record { seq = s; site = k }

-- "Priority: the smaller sequence number comes before; with equal ones, the smaller site."
unfoldable pub comes_before : Key → Key → Bool
comes_before a b = cond (eqb a.seq b.seq) (ltb a.site b.site) (ltb a.seq b.seq)

-- site k of a queue, given by its numbers
abbrev pub queued_key : List ℕ → ℕ → Key
queued_key row k = key (at 0 row k) k

abbrev pub goes_first : List ℕ → ℕ → ℕ → Bool
goes_first row k h = comes_before (queued_key row k) (queued_key row h)

-- the head, once site k is looked at: h is the head of the sites below k, 0 none
unfoldable pub head_with : List ℕ → ℕ → ℕ → ℕ
head_with row k h =
    cond (eqb (at 0 row k) 0) h
    (cond (eqb h 0) k
    (cond (goes_first row k h) k h))

-- "The head is the queued site that comes before all others queued": of the sites 1 to n; 0 where none is queued
unfoldable pub head : List ℕ → ℕ → ℕ
head row zero = 0
head row (suc n) = head_with row (suc n) (head row n)
