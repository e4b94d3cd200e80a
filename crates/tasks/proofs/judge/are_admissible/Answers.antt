-- `are_admissible` meets its contract: an image of no admissible state tells; where there is none, all are of one.
use Rattle.model.proofs.Prelude.{not}
use Rattle.model.proofs.Prelude.{ap}
use Rattle.model.proofs.Prelude.{refl, arith}
use Rattle.tasks.proofs.Judged.{below_none}
use Rattle.tasks.proofs.ImageParts.{ends_before, few_bytes, ends_few, all_short, admitted_fails, admitted_more, admitted_all}
use Rattle.std.proofs.Common.{rules}
use Rattle.tasks.proofs.judge.are_admissible.Goals as goal

pub overflow_mul-n : goal.overflow_mul-n
overflow_mul-n c = omega (arith, few_bytes c.args.n c.args.images.now _ (c.each_len-each.ensures _ refl) (omega arith))

pub returns-then-images-n : goal.returns-then-images-n
returns-then-images-n c = all_short _ _ _ (c.each_len-each.ensures _ refl) (omega arith) c.if-images-n.true

pub loop-k-init : goal.loop-k-init
loop-k-init c = below_none _

pub overflow_mul-start : goal.overflow_mul-start
overflow_mul-start c =
    let a = c.args in
    omega (arith, ends_few a.n a.images.now _ (c.each_len-each.ensures _ refl) (omega arith) c.loop-k.k (omega arith))

pub overflow_add-end : goal.overflow_add-end
overflow_add-end c =
    let a = c.args in
    omega (arith, ends_few a.n a.images.now _ (c.each_len-each.ensures _ refl) (omega arith) c.loop-k.k (omega arith))

pub slice_bounds-is_admissible-end : goal.slice_bounds-is_admissible-end
slice_bounds-is_admissible-end c =
    let end = ends_before c.loop-k.k c.args.n c.each_len-each.result (omega arith) in
    search rules

pub returns-then-not-is_admissible : goal.returns-then-not-is_admissible
returns-then-not-is_admissible c =
    admitted_fails _ _ _ (c.each_len-each.ensures _ refl) c.if-images-n.false c.loop-k.k (omega arith) _ c.is_admissible.ensures (ap not c.if-not-is_admissible.true)

pub loop-k-preserved : goal.loop-k-preserved
loop-k-preserved c =
    admitted_more c.args.n c.args.images.now _ (c.each_len-each.ensures _ refl) c.if-images-n.false c.loop-k.k (omega arith) _
    c.is_admissible.ensures (ap not c.if-not-is_admissible.false) c.loop-k.invariant

pub returns : goal.returns
returns c =
    admitted_all _ _ _ (c.each_len-each.ensures _ refl) c.if-images-n.false c.loop-k.k (omega arith) c.loop-k.invariant
