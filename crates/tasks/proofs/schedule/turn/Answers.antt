-- `turn` meets its contract: no turn where nothing is left or the task has stopped, else that of its image.
use Rattle.model.proofs.Prelude.{◌*◌, ◌+◌, ◌-◌, refl, ◌≡◌, arith, length}
use Rattle.tasks.proofs.ImageParts.{ends_few, room_for, image_lent}
use Rattle.tasks.proofs.DeskTurns.{turned_most, played_spent, played_stopped}
use Rattle.tasks.proofs.Played.{turn_given}
use Rattle.std.proofs.Common.{rules}
use Rattle.tasks.proofs.schedule.turn.Goals as goal

pub returns-then-left-eq0-clause-played : goal.returns-then-left-eq0-clause-played
returns-then-left-eq0-clause-played c =
    played_spent _ _ _ _ _ _ _ _ _ _ c.requires.1 c.if-left-eq0.true

pub returns-then-tasks-k-ne0-clause-played : goal.returns-then-tasks-k-ne0-clause-played
returns-then-tasks-k-ne0-clause-played c =
    played_stopped _ _ _ _ _ _ _ _ _ _ c.requires.1 (omega (arith, c.requires.0, c.requires.1.few)) c.if-tasks-k-ne0.true

pub overflow_mul-start : goal.overflow_mul-start
overflow_mul-start c =
    omega (arith, ends_few _ c.args.tasks.now.images.now _ (c.each_len-each.ensures _ refl) c.requires.1.few c.args.k c.requires.0)

pub overflow_add-end : goal.overflow_add-end
overflow_add-end c =
    omega (arith, ends_few _ c.args.tasks.now.images.now _ (c.each_len-each.ensures _ refl) c.requires.1.few c.args.k c.requires.0)

pub slice_bounds-image_turn-end : goal.slice_bounds-image_turn-end
slice_bounds-image_turn-end c =
    let room = room_for _ c.args.tasks.now.images.now _ (c.each_len-each.ensures _ refl) c.requires.1.fit c.args.k c.requires.0 in
    search rules

pub image_turn-ran-requires : goal.image_turn-ran-requires
image_turn-ran-requires c =
    image_lent _ c.args.tasks.now.images.now _ (c.each_len-each.ensures _ refl) c.requires.1.fit c.args.k c.requires.0

pub overflow_add-tasks : goal.overflow_add-tasks
overflow_add-tasks c =
    omega (arith, c.requires.1.small c.args.k, turned_most _ _ _ _ _ _ _ _ c.image_turn-ran.ensures.turned, c.min-grant.ensures)

pub overflow_sub-result : goal.overflow_sub-result
overflow_sub-result c =
    omega (arith, turned_most _ _ _ _ _ _ _ _ c.image_turn-ran.ensures.turned, c.min-grant.ensures)

pub returns-clause-played : goal.returns-clause-played
returns-clause-played c =
    let k = c.args.k in
    let e = c.each_len-each.result in
    let long : length c.image_turn-ran.new.image ≡ k * e + e - k * e
    = omega (arith, c.images-1.given, c.image_turn-arg-1.given.2) in
    rw c.from.ensures (turn_given _ _ _ _ _ _ _ c.requires.1 _ c.requires.0 c.if-left-eq0.false c.if-tasks-k-ne0.false _ (c.each_len-each.ensures _ refl) _
    c.part_at-own.ensures _ c.min-grant.ensures _ _ c.image_turn-ran.new.image _ long c.image_turn-ran.ensures.turned)
