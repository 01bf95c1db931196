-- Every message that a rule sends is one of the seven kinds, with 0 where its kind has nothing to say: the machine's message gives
-- it back.
use Prim.Native.Nat.{ℕ}
use mathlib.Core.Path.{◌≡◌, refl}
use mathlib.Core.List.{List}
use lib.Dec.{eqb}
use borrow.Author.Tests.{eqb-true}
use Rattle.basics.specs.Helpers.{All}
use Rattle.basics.proofs.Basics.{by_bool}
use Rattle.rig.specs.declared.Desk.{Desk}
use Rattle.rig.specs.declared.Message.{Message}
use Rattle.rig.specs.Messages.{request, reply, release, inquire, fail, yield, transfer}
use Rattle.protocol.specs.Message as M
use Rattle.protocol.specs.Rig as R
use Rattle.model.specs.Ask.{asked}
use Rattle.model.specs.Leave.{left}
use Rattle.model.specs.Deliver.{delivered}
use Rattle.model.proofs.Machine.{sent_of}
use Rattle.model.proofs.Sent.{Others, asked-sends, left-sends, delivered-sends}

-- the message of document 01 that a message of the machine stands for
abbrev pub wire_of : ℕ → M.Message → Message
wire_of j (M.request k a) = request k j a.number
wire_of j (M.reply f k n) = reply f k j n
wire_of j (M.release k n) = release k j 0 n
wire_of j (M.hand_over k x n) = release k j x n
wire_of j (M.inquire k n) = inquire j k n
wire_of j (M.fail k n) = fail j k n
wire_of j (M.yield k n) = yield k j n
wire_of j (M.transfer k x n) = transfer j k x n

abbrev pub wire : R.Sent → Message
wire x = wire_of x.arbiter x.message

abbrev pub Plain : Message → Type 0
Plain m = wire (sent_of m) ≡ m

release-plain : (s j x g : ℕ) → Plain (release s j x g)
release-plain s j x g = by_bool (eqb x 0) (λ e. rw (e, eqb-true x 0 e)) (λ e. rw e)

-- lists of such messages
abbrev pub AllPlain : List Message → Type 0
AllPlain ms = All Plain ms

others : Others Plain
others = record {
  requests = λ a b n. refl;
  replies = λ a b j n. refl;
  releases = release-plain;
  inquires = λ a b n. refl;
  yields = λ a b n. refl;
  transfers = λ a b x n. refl;
}

pub asked-plain : (d : Desk) → AllPlain (asked d).sent
asked-plain d = asked-sends Plain others d

pub left-plain : (d : Desk) → AllPlain (left d).sent
left-plain d = left-sends Plain others d

pub delivered-plain : (d : Desk) (m : Message) → AllPlain (delivered d m).sent
delivered-plain d m = delivered-sends Plain others d m (λ e. record { own = refl; former = λ f. refl })
