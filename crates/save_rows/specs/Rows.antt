-- Reading into a list in rows, once its length has been judged.
use Rattle.std.specs.Prelude.{ℕ, Bool, true, false, not, cond, List, ◌≢◌, ◌≡◌, eqb}
use Rattle.std.proofs.Math.Option.{Option, none, some}
use Rattle.rig.specs.declared.Answer as R
use Rattle.rig.specs.Limits.{message_limit}
use Rattle.rig.specs.Answers as Answers
use Rattle.model.specs.Setup.{no_rig}
use Rattle.model.specs.State.{Stored}
use Rattle.list_rows.specs.Rows.{ZeroPast}
use Rattle.list_rows.specs.State.{stored}
use Rattle.save_text.specs.Reading.{read_text}

-- "13 first", then 14 for a text that says nothing
abbrev pub none_read : Option Stored → Bool
none_read none = true
none_read (some s) = false

unfoldable pub read_code : ℕ → List ℕ → ℕ
read_code len text = cond (not (eqb len message_limit)) 13 (cond (none_read (read_text text)) 14 0)

-- What reading leaves, where the list is `len` entries long: with code 0 the state that the text says, in the tables and the rows; otherwise a rig without sites, and
-- the tables as they came.
pub record ReadsRows (len : ℕ) (text : List ℕ) (tables after : List (List (List ℕ))) (rows : List (List ℕ)) (r : R.Answer) : Type 0 where
  pub code : r.code ≡ read_code len text
  pub read : r.code ≡ 0 → read_text text ≡ some (stored r.rig after rows r.count)
  pub zeros : r.code ≡ 0 → ZeroPast r.count rows
  pub refused : r.code ≢ 0 → (r ≡ Answers.refused r.code no_rig 0) × (after ≡ tables)
