-- Request 2.1, "a program that prints a family", and request 2.5: the numbers that the words behind a family's name are.
use Rattle.std.specs.Prelude.{ℕ, ◌+◌, min, ◌&&◌, true, false, cond, List, [], ◌∷◌, set, replicate, Option, Some, None}
use Rattle.rig.specs.Limits.{site_limit}
use Rattle.player_numbers.specs.Numbers.{all_digits, no_leading_zero, value}
use Rattle.plan_numbers.specs.declared.Given.{Given}

-- the largest number of 64 bits
abbrev pub largest : ℕ
largest = 18_446_744_073_709_551_615

-- The number that a word is: digits without leading zeros, as in the player's text, but of any value. What is above the largest number of 64 bits
-- is read as that one, which no family lists.
unfoldable pub parameter : List ℕ → Option ℕ
parameter bs = cond (no_leading_zero bs && all_digits bs) (Some (min (value 0 bs) largest)) None

-- before the first word
unfoldable pub nothing_given : Given
nothing_given = record { wrong = false; count = 0; numbers = replicate site_limit 0 }

-- with one number more: it is counted, and kept if there is an entry for it
unfoldable pub with_number : Given → ℕ → Given
with_number g n = record { wrong = g.wrong; count = min (g.count + 1) largest; numbers = set g.numbers g.count n }

-- with a word that is no number
unfoldable pub gone_wrong : Given → Given
gone_wrong g = record { wrong = true; count = g.count; numbers = g.numbers }

-- with one word more, by the number that it is
unfoldable pub with_read : Given → Option ℕ → Given
with_read g (Some n) = with_number g n
with_read g None = gone_wrong g

abbrev pub with_word : Given → List ℕ → Given
with_word g word = with_read g (parameter word)

-- with some words more, one behind the other; and the words behind a family's name
unfoldable pub with_words : Given → List (List ℕ) → Given
with_words g [] = g
with_words g (word ∷ words) = with_words (with_word g word) words

abbrev pub given : List (List ℕ) → Given
given words = with_words nothing_given words
