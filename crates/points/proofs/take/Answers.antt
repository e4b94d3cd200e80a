-- `take` meets its contract: each refusal by its test, and else the room is filled.
use Rattle.model.proofs.Prelude.{not}
use Rattle.model.proofs.Prelude.{ap}
use Rattle.model.proofs.Prelude.{◌*◌, ◌+◌, ◌-◌, arith, full, PointFits, point_in, number_of, and_left, denied, granted, told_done, told_refused}
use Rattle.image.proofs.Coded.{at_least, at_most}
use Rattle.points.specs.Store.{room_length}
use Rattle.points.proofs.Answers.{lent_fits, two_unruled, two_short, two_name, two_open, take_one, take_two, took_not, took_done}
use Rattle.std.proofs.Common.{rules}
use Rattle.points.proofs.take.Goals as goal

pub returns-then-not-is_admissible : goal.returns-then-not-is_admissible
unfolding number_of
returns-then-not-is_admissible c = took_not _ _ _ 1 (λ z. omega arith) (take_one _ _ _ (denied _ _ c.is_admissible.ensures (ap not c.if-not-is_admissible.true)))

pub returns-then-ne : goal.returns-then-ne
returns-then-ne c =
    let refused = told_refused _ _ c.ne.ensures c.if-ne.true in
    took_not _ _ _ _ refused
    (take_two _ _ _ (granted _ _ c.is_admissible.ensures (ap not c.if-not-is_admissible.false)) _
    (two_unruled _ _ _ _ _ c.windows_refusal-refusal.ensures refused))

pub returns-then-store-lt-STORE_LEN : goal.returns-then-store-lt-STORE_LEN
unfolding number_of
returns-then-store-lt-STORE_LEN c =
    took_not _ _ _ 26 (λ z. omega arith)
    (take_two _ _ _ (granted _ _ c.is_admissible.ensures (ap not c.if-not-is_admissible.false)) 26
    (two_short _ _ _ _ _ c.windows_refusal-refusal.ensures (told_done _ _ c.ne.ensures c.if-ne.false) (omega arith)))

pub returns-then-name-ge-POINTS : goal.returns-then-name-ge-POINTS
unfolding number_of
returns-then-name-ge-POINTS c =
    took_not _ _ _ 27 (λ z. omega arith)
    (take_two _ _ _ (granted _ _ c.is_admissible.ensures (ap not c.if-not-is_admissible.false)) 27
    (two_name _ _ _ _ _ c.windows_refusal-refusal.ensures (told_done _ _ c.ne.ensures c.if-ne.false) (omega arith) (omega arith)))

pub fill-requires : goal.fill-requires
fill-requires c =
    let a = c.args in
    let fits : PointFits (full (point_in a.image.now a.at.a a.at.b a.a.now a.b.now))
    = lent_fits _ _ c.windows_refusal-refusal.ensures (told_done _ _ c.ne.ensures c.if-ne.false) in
    let is = and_left _ _ (granted _ _ c.is_admissible.ensures (ap not c.if-not-is_admissible.false)) in
    (search rules, at_least a.image.now is, at_most a.image.now is, fits.long_a, fits.long_b)

pub returns : goal.returns
unfolding number_of
returns c =
    let a = c.args in
    took_done _ _ _
    (take_two _ _ _ (granted _ _ c.is_admissible.ensures (ap not c.if-not-is_admissible.false)) 0
    (two_open _ _ _ _ _ c.windows_refusal-refusal.ensures (told_done _ _ c.ne.ensures c.if-ne.false) (omega arith) (omega arith)))
    (omega arith) (omega arith) (a.name * room_length + room_length - a.name * room_length) c.fill.new.room (omega arith) c.fill.ensures
