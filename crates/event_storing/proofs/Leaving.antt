-- A call that leaves what came, and one that leaves an effect within the limits.
use Prim.Native.Nat.{ℕ, ◌+◌, ◌≤◌}
use mathlib.Core.Path.{◌≡◌, refl, sym, ap, ◌∙◌}
use mathlib.Core.Bool.{Bool, true, false, not, ◌||◌}
use mathlib.Core.List.{List, [], ◌++◌, map, map-append}
use native.Mathlib.Omega.{arith}
use lib.Dec.{eqb, leb}
use lib.ListN.{length, take, get_or, length-map, length-append}
use lib.Seq.{length-take-le}
use borrow.Author.Tests.{lt-ltb, le-ltb, leb-true, leb-false}
use Rattle.basics.proofs.Basics.{clash}
use Rattle.rig.specs.declared.Site.{Site}
use Rattle.rig.specs.declared.Arbiter.{Arbiter}
use Rattle.rig.specs.declared.Desk.{Desk}
use Rattle.rig.specs.declared.Message.{Message}
use Rattle.rig.specs.Limits.{HELD, HEIR, INQUIRED, QUEUED, message_limit, event_limit}
use Rattle.model.specs.Event.{numbers_fit, limit_code, possible, Outcome, outcome, judged, padded}
use Rattle.model.proofs.Tables.{put_self}
use Rattle.list_rows.specs.Rows.{message_of, ZeroPast, without}
use Rattle.list_rows.proofs.Rows.{cleared-padded}
use Rattle.list_exchange.specs.Exchange.{Exchanged}
use Rattle.event_effects.specs.declared.Acted.{Acted}
use Rattle.event_desks.specs.Parts.{desk_at, RowsStored}
use Rattle.event_storing.specs.Leaves.{refused, Left, messages_in, effect_of, staying}

module _ (ts ts' : List (List (List ℕ))) (list list' : List (List ℕ)) (k n : ℕ) where
  -- a refusal, with nothing written
  pub left_alone : (c size set : ℕ) (s : Site) (a : Arbiter) (ms : List Message) → eqb c 0 ≡ false → ts' ≡ ts → list' ≡ list → ZeroPast n list
      → Left (outcome c (desk_at size k set s a ts) ms) k n ts ts' list list' (refused c s a n)
  left_alone c size set s a ms h t l z = record {
    code = refl;
    site = refl;
    arbiter = refl;
    rows = λ g. rw (t, put_self [] (get_or ts HELD []) k, put_self [] (get_or ts HEIR []) k, put_self [] (get_or ts INQUIRED []) k, put_self [] (get_or ts QUEUED []) k);
    stays = λ _. (refl, l);
    changes = λ e. clash (eqb c 0) e h;
    zeros = rw l z;
  }

  -- an effect within the limits: the desk stored, the list exchanged
  pub left-changed : (place : ℕ) (a : Acted) (out : List (List ℕ)) (m : ℕ) → a.count ≤ length out
      → RowsStored k a.desk ts ts' → Exchanged n place list out a.count m list' → length list' ≡ message_limit → m ≤ message_limit
      → Left (outcome 0 a.desk (staying n place list ++ messages_in a.count out)) k n ts ts' list list' (record { code = 0; site = a.desk.site; arbiter = a.desk.arbiter; count = m })
  left-changed place a out m fits rows x long few =
      let count : m ≡ length (staying n place list ++ messages_in a.count out) =
      rw (length-append, length-map (without place (take n list)) message_of, length-map (take a.count out) message_of, length-take-le a.count out fits) x.count in
      let messages : map message_of list' ≡ padded (staying n place list ++ messages_in a.count out) =
      ap (map message_of) (sym x.zeros)
      ∙ cleared-padded m list' long (omega arith)
      ∙ ap (λ (r : List (List ℕ)). padded (map message_of r)) x.list
      ∙ ap padded (map-append message_of (without place (take n list)) (take a.count out)) in
      record { code = refl; site = refl; arbiter = refl; rows = rows; stays = λ e. clash false (sym e) refl; changes = λ _. (count, messages); zeros = x.zeros }

-- What the limits make of an effect.
module _ (accepted : ℕ) (d : Desk) (ms : List Message) (a : Acted) (out : List (List ℕ)) (n place : ℕ) (rows : List (List ℕ)) (fits : a.count ≤ length out) where
  abbrev result : Outcome
  result = judged accepted d ms (possible (effect_of a out) (staying n place rows))

  abbrev over : Bool
  over = leb event_limit accepted || not (numbers_fit a.desk.site.clock a.desk.arbiter.grant (messages_in a.count out))

  many : length (staying n place rows) + length (messages_in a.count out) ≡ length (without place (take n rows)) + a.count
  many = rw (length-map (without place (take n rows)) message_of, length-map (take a.count out) message_of, length-take-le a.count out fits)

  pub told-9 : over ≡ true → result ≡ outcome 9 d ms
  unfolding judged limit_code
  told-9 e = rw e

  pub told-8 : over ≡ false → leb (length (without place (take n rows)) + a.count) message_limit ≡ false → result ≡ outcome 8 d ms
  unfolding judged limit_code
  told-8 e f = rw (e, many, lt-ltb message_limit (length (without place (take n rows)) + a.count) (leb-false _ _ f))

  pub told-0 : over ≡ false → leb (length (without place (take n rows)) + a.count) message_limit ≡ true → result ≡ outcome 0 a.desk (staying n place rows ++ messages_in a.count out)
  unfolding judged limit_code
  told-0 e f = rw (e, many, le-ltb message_limit (length (without place (take n rows)) + a.count) (leb-true _ _ f))
