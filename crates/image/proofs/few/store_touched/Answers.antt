-- `store_touched` meets its contract: few registers, or all.
use Rattle.model.proofs.Prelude.{not}
use Rattle.model.proofs.Prelude.{ap}
use Rattle.model.proofs.Prelude.{made, denied, granted}
use Rattle.image.specs.Image.{state_of}
use Rattle.image.proofs.Coded.{room_image}
use Rattle.image.proofs.FewCoded.{touched_not, touched_few, touched_all}
use Rattle.image.proofs.few.store_touched.Goals as goal

pub returns-then-not-has_room : goal.returns-then-not-has_room
returns-then-not-has_room c =
    let a = c.args in
    touched_not a.image.now (state_of a.image.now) (made a.general.now a.special.now a.rest.pc a.rest.halt a.rest.marks a.rest.mask) a.x a.few
    (denied _ _ c.has_room.ensures (ap not c.if-not-has_room.true))

pub store_few-requires : goal.store_few-requires
store_few-requires c = room_image _ _ (granted _ _ c.has_room.ensures (ap not c.if-not-has_room.false))

pub returns-then-few : goal.returns-then-few
returns-then-few c =
    let a = c.args in
    touched_few a.image.now (state_of a.image.now) (made a.general.now a.special.now a.rest.pc a.rest.halt a.rest.marks a.rest.mask) a.x a.few _
    c.if-few.true (granted _ _ c.has_room.ensures (ap not c.if-not-has_room.false)) c.store_few.ensures

pub store_parts-requires : goal.store_parts-requires
store_parts-requires c = room_image _ _ (granted _ _ c.has_room.ensures (ap not c.if-not-has_room.false))

pub returns : goal.returns
returns c =
    let a = c.args in
    touched_all a.image.now (state_of a.image.now) (made a.general.now a.special.now a.rest.pc a.rest.halt a.rest.marks a.rest.mask) a.x a.few _
    c.if-few.false (granted _ _ c.has_room.ensures (ap not c.if-not-has_room.false)) c.store_parts.ensures
