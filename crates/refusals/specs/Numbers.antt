-- Document 01, "What is turned down, by operation", "Setup", "Families", "An event", "A line of the player", and the requests 2.2, 2.5 and 2.6: "this paper's
-- number" of each reason.
use Rattle.std.specs.Prelude.{ℕ, Result, Ok, Err}
use Rattle.refusals.specs.declared.Refusal.{Refusal}
use Rattle.refusals.specs.declared.Refusal.TheVariants.{SiteCount, FaultySet, SetsApart, UnknownSite, NotResting, NotInside, NothingSent, ListFull, LimitReached, Misshapen, Malformed, Unlisted, WrongLength, NotAState, ShortBuffer, FaultyVotes, NestedSets}

abbrev pub number_of : Refusal → ℕ
number_of SiteCount = 1
number_of FaultySet = 2
number_of SetsApart = 3
number_of UnknownSite = 4
number_of NotResting = 5
number_of NotInside = 6
number_of NothingSent = 7
number_of ListFull = 8
number_of LimitReached = 9
number_of Misshapen = 10
number_of Malformed = 11
number_of Unlisted = 12
number_of WrongLength = 13
number_of NotAState = 14
number_of ShortBuffer = 15
number_of FaultyVotes = 16
number_of NestedSets = 17

-- the code of an answer: 0 where the call is accepted, else the number of its refusal
abbrev pub code_in : {T : Type 0} → Result T Refusal → ℕ
code_in (Ok x) = 0
code_in (Err r) = number_of r
