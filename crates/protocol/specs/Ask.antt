-- An ask: what a request carries, a queue keeps, and priority compares.
use Rattle.std.specs.Prelude.{ℕ, Bool, eqb}

-- "the sequence number of its ask"
pub record Ask : Type 0 where
  pub number : ℕ

-- an ask with that sequence number
abbrev pub ask_with : ℕ → Ask
ask_with n = record { number = n }

-- "(0 none)"
abbrev pub no_ask : Ask
no_ask = ask_with 0

-- no ask stands there
abbrev pub is_no_ask : Ask → Bool
is_no_ask a = eqb a.number 0
