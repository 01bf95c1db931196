-- Reading, case by case.
use Prim.Native.Nat.{ℕ, ◌≤◌}
use mathlib.Core.Bool.{true, false}
use mathlib.Core.List.{List}
use mathlib.Core.Logic.{◌≢◌}
use mathlib.Core.Option.{none, some}
use mathlib.Core.Path.{◌≡◌, refl, ap}
use native.Mathlib.Omega.{arith}
use lib.Dec.{leb}
use lib.ListN.{length}
use borrow.Author.Tests.{eq-eqb, ne_eqb, leb-true, le-leb}
use Rattle.basics.proofs.Basics.{by_bool, clash, and_split}
use Rattle.rig.specs.declared.Answer as R
use Rattle.rig.specs.declared.Rig.{Rig}
use Rattle.rig.specs.Limits.{site_limit, message_limit}
use Rattle.rig.specs.Answers as Answers
use Rattle.model.specs.Setup.{no_rig}
use Rattle.model.specs.State.{Stored}
use Rattle.model.specs.Shape.{well_shaped}
use Rattle.model.proofs.Shaped.{shaped}
use Rattle.list_rows.specs.Rows.{ZeroPast}
use Rattle.list_rows.specs.State.{stored}
use Rattle.save_lines.specs.Lines.{lines_in}
use Rattle.save_text.specs.Text.{this_spelling}
use Rattle.save_text.specs.Reading.{size_from, messages_from, tables_of, state_from, is_text_of, accepts, read_text}
use Rattle.save_reading.specs.declared.Given.{Given}
use Rattle.save_reading.specs.Lines.{fitting, GivesState}
use Rattle.save_rows.specs.Rows.{read_code, ReadsRows}

-- a text whose lines have too many sites or messages
too_many : (text : List ℕ) → fitting (lines_in text) ≡ false → well_shaped (state_from (lines_in text)) ≡ false
unfolding state_from tables_of
too_many text f =
    by_bool (well_shaped (state_from (lines_in text)))
    (λ w. let h = shaped (state_from (lines_in text)) w in
    clash (fitting (lines_in text)) (rw (le-leb _ site_limit h.sets.high, le-leb _ message_limit h.few)) f)
    (λ w. w)

-- a text that is not that of its state
pub none_read : (text : List ℕ) → is_text_of this_spelling text (state_from (lines_in text)) ≡ false → read_text text ≡ none
unfolding read_text accepts
none_read text f = rw f

pub some_read : (text : List ℕ) (s : Stored) → s ≡ state_from (lines_in text) → is_text_of this_spelling text s ≡ true → read_text text ≡ some s
unfolding read_text accepts
some_read text s e f = rw (← e, f)

pub not-fitting : (text : List ℕ) → fitting (lines_in text) ≡ false → read_text text ≡ none
unfolding read_text accepts is_text_of
not-fitting text f = rw (too_many text f)

-- a refusal with a code
module _ (len : ℕ) (text : List ℕ) (ts : List (List (List ℕ))) (rows : List (List ℕ)) (r : R.Answer) where
  refusal : (code : ℕ) → code ≢ 0 → r ≡ Answers.refused code no_rig 0 → code ≡ read_code len text → ReadsRows len text ts ts rows r
  refusal code n e c = record {
    code = rw e c;
    read = λ z. absurd (n (rw e at z));
    zeros = λ z. absurd (n (rw e at z));
    refused = λ z. (rw e, refl);
  }

  pub wrong-length : len ≢ message_limit → r ≡ Answers.refused 13 no_rig 0 → ReadsRows len text ts ts rows r
  unfolding read_code
  wrong-length h e = refusal 13 (λ z. omega arith) e (rw (ne_eqb len message_limit h))

  pub says_nothing : len ≡ message_limit → read_text text ≡ none → r ≡ Answers.refused 14 no_rig 0 → ReadsRows len text ts ts rows r
  unfolding read_code
  says_nothing h n e = refusal 14 (λ z. omega arith) e (rw (eq-eqb len message_limit h, n))

-- a text that says a state
pub says-state :
    (len : ℕ) (text : List ℕ) (ts after : List (List (List ℕ))) (rows : List (List ℕ)) (g : Rig) (n : ℕ)
    → len ≡ message_limit → read_text text ≡ some (stored g after rows n) → ZeroPast n rows
    → ReadsRows len text ts after rows (record { code = 0; rig = g; count = n })
unfolding read_code
says-state len text ts after rows g n h e z = record {
  code = rw (eq-eqb len message_limit h, e);
  read = λ _. e;
  zeros = λ _. z;
  refused = λ no. absurd (no refl);
}

-- no more messages than the list holds
pub few : {text : List ℕ} {ts : List (List (List ℕ))} {list : List (List ℕ)} {g : Given} → GivesState text ts list g → g.count ≤ message_limit
unfolding state_from
few {text} {g = g} s =
    let l = leb-true (length (messages_from (lines_in text))) message_limit (and_split (leb (size_from (lines_in text)) site_limit) _ s.fits).1 in
    let c : g.count ≡ length (messages_from (lines_in text)) = ap (λ (t : Stored). t.count) s.state in
    omega arith
