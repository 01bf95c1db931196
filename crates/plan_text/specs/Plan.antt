-- Request 2.1, "a program that prints a family", and request 2.5: what a command prints, and where.
use Rattle.std.specs.Prelude.{cond, List, [], ◌∷◌, ◌≡◌, ℕ, eqb, Option, Some, None}
use Rattle.rig.specs.Limits.{site_limit}
use Rattle.host_bytes.specs.Counts.{IsPrefixLen}
use Rattle.family_rules.specs.declared.Family.{Family}
use Rattle.family_rules.specs.Family.{listed, size_of, sets_of}
use Rattle.family_votes.specs.Votes.{sets_by_votes}
use Rattle.families.specs.ByVotes.{votes_code}
use Rattle.plan_lines.specs.Lines.{code_text, setup_text}
use Rattle.player_printing.specs.Printing.{Printed}
use Rattle.plan_numbers.specs.declared.Given.{Given}
use Rattle.plan_words.specs.declared.Asked.{Asked}
use Rattle.plan_words.specs.declared.Asked.TheVariants.{For, Votes}
use Rattle.plan_words.specs.Words.{asked_by}
use Rattle.plan_text.specs.declared.Output.{Output}
use Rattle.plan_text.specs.declared.Stream.{Stream}
use Rattle.plan_text.specs.declared.Stream.TheVariants.{Out, Err}

-- "`sites=N` and the N lines `set=`"; "A refusal prints one line `code=12`."
unfoldable pub family_text : Family → List ℕ
family_text f = cond (listed f) (setup_text (size_of f) (sets_of f)) (code_text 12)

-- Request 2.5, "`./plan votes 3 1 1 1` prints the family (N is how many votes there are); refusals print `code=`"
unfoldable pub votes_text : ℕ → List ℕ → List ℕ
votes_text n votes = let code = votes_code n votes site_limit in cond (eqb code 0) (setup_text n (sets_by_votes n votes)) (code_text code)

-- `usage: ./plan grid SIDE | billiard Q | plane P | levels ROWS BAYS LEVELS | votes VOTE ...` and byte 10
abbrev pub usage_text : List ℕ
usage_text =
    117 ∷ 115 ∷ 97 ∷ 103 ∷ 101 ∷ 58 ∷ 32 ∷ 46 ∷ 47 ∷ 112 ∷ 108 ∷ 97 ∷ 110 ∷ 32 ∷ 103 ∷ 114 ∷ 105 ∷ 100 ∷ 32 ∷ 83 ∷ 73 ∷ 68 ∷ 69 ∷ 32 ∷ 124 ∷ 32 ∷
    98 ∷ 105 ∷ 108 ∷ 108 ∷ 105 ∷ 97 ∷ 114 ∷ 100 ∷ 32 ∷ 81 ∷ 32 ∷ 124 ∷ 32 ∷ 112 ∷ 108 ∷ 97 ∷ 110 ∷ 101 ∷ 32 ∷ 80 ∷ 32 ∷ 124 ∷ 32 ∷ 108 ∷ 101 ∷
    118 ∷ 101 ∷ 108 ∷ 115 ∷ 32 ∷ 82 ∷ 79 ∷ 87 ∷ 83 ∷ 32 ∷ 66 ∷ 65 ∷ 89 ∷ 83 ∷ 32 ∷ 76 ∷ 69 ∷ 86 ∷ 69 ∷ 76 ∷ 83 ∷ 32 ∷ 124 ∷ 32 ∷ 118 ∷ 111 ∷
    116 ∷ 101 ∷ 115 ∷ 32 ∷ 86 ∷ 79 ∷ 84 ∷ 69 ∷ 32 ∷ 46 ∷ 46 ∷ 46 ∷ 10 ∷ []

-- what is asked, with the numbers that are given; "A wrong word, a number that is none or too many of them print how to use it"
unfoldable pub text_for : Option Asked → Given → List ℕ
text_for (Some (For f)) g = family_text f
text_for (Some Votes) g = votes_text g.count g.numbers
text_for None g = usage_text

-- standard output, or, how to use it, "to standard error"
unfoldable pub stream_for : Option Asked → Stream
stream_for (Some a) = Out
stream_for None = Err

-- what is asked stands at the start of the page, and the bytes behind it are as they came; the answer has where it goes, and its length on the page
abbrev pub Prints : List ℕ → Given → List ℕ → List ℕ → Output → Type 0
Prints name g page after r =
    let asked = asked_by name g in
    (r.to ≡ stream_for asked) × Printed (text_for asked g) page after r.length × IsPrefixLen r.length after
