-- No reason has the number 0, which stands for an accepted call.
use Rattle.std.specs.Prelude.{Result, Ok, Err, is_ok, eqb}
use mathlib.Core.Path.{◌≡◌, refl, sym}
use borrow.Author.Tests.{ne_eqb}
use native.Mathlib.Omega.{arith}
use Rattle.refusals.specs.declared.Refusal.{Refusal}
use Rattle.refusals.specs.declared.Refusal.TheVariants.{SiteCount, FaultySet, SetsApart, UnknownSite, NotResting, NotInside, NothingSent, ListFull, LimitReached, Misshapen, Malformed, Unlisted, WrongLength, NotAState, ShortBuffer, FaultyVotes, NestedSets}
use Rattle.refusals.specs.Numbers.{number_of, code_in}

pub some_number : (r : Refusal) → number_of r ≡ 0 → ⊥
some_number SiteCount e = omega arith
some_number FaultySet e = omega arith
some_number SetsApart e = omega arith
some_number UnknownSite e = omega arith
some_number NotResting e = omega arith
some_number NotInside e = omega arith
some_number NothingSent e = omega arith
some_number ListFull e = omega arith
some_number LimitReached e = omega arith
some_number Misshapen e = omega arith
some_number Malformed e = omega arith
some_number Unlisted e = omega arith
some_number WrongLength e = omega arith
some_number NotAState e = omega arith
some_number ShortBuffer e = omega arith
some_number FaultyVotes e = omega arith
some_number NestedSets e = omega arith

-- an answer is accepted where its code is 0
pub accepted_code : {T : Type 0} (r : Result T Refusal) → is_ok r ≡ eqb (code_in r) 0
accepted_code (Ok x) = refl
accepted_code (Err r) = sym (ne_eqb (number_of r) 0 (some_number r))
