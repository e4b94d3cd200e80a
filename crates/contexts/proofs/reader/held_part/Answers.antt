-- `held_part` meets its contract: the window that has room for the first octabyte holds it.
use Rattle.model.proofs.Prelude.{sym, ◌∙◌}
use Rattle.contexts.proofs.ReaderAnswers.{part_b, part_a}
use Rattle.contexts.proofs.reader.held_part.Goals as goal

pub returns-then-room-ne0 : goal.returns-then-room-ne0
returns-then-room-ne0 c =
    let pre = c.requires in
    c.part_in.ensures ∙ part_b _ pre.2 _ _ (λ z. c.if-room-ne0.true (c.room.ensures.0 ∙ z))

pub returns : goal.returns
returns c =
    let pre = c.requires in
    c.part_in-2.ensures ∙ part_a _ pre.2 _ _ pre.0 pre.3 (sym c.room.ensures.0 ∙ c.if-room-ne0.false)
