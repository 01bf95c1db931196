-- `put_saved`: the count, the shape, then the text.
use mathlib.Core.Path.{sym, ◌∙◌}
use Rattle.state_saving.proofs.Saved.{printed-as, too_many, misshapen, shaped-text}
use Rattle.state_saving.proofs.put_saved.Goals as goal

pub returns-then-count-gt-MESSAGES : goal.returns-then-count-gt-MESSAGES
returns-then-count-gt-MESSAGES c = printed-as (too_many _ c.if-count-gt-MESSAGES.true) c.put_stop.ensures

pub returns-then-not-well_shaped : goal.returns-then-not-well_shaped
returns-then-not-well_shaped c = printed-as (misshapen _ (sym c.well_shaped.ensures ∙ c.if-not-well_shaped.true)) c.put_stop-then-not-well_shaped.ensures

pub put_state-requires : goal.put_state-requires
put_state-requires c = sym c.well_shaped.ensures ∙ c.if-not-well_shaped.false

pub returns : goal.returns
returns c = printed-as (shaped-text _ (sym c.well_shaped.ensures ∙ c.if-not-well_shaped.false)) c.put_state.ensures
