-- `known` meets its contract: what is read of a slice of bytes is a byte, at any place.
use Rattle.model.proofs.Prelude.{◌≤◌, arith, length, old_image_length}
use Rattle.image.proofs.Coded.{at_least}
use Rattle.image.proofs.few.known.Goals as goal

pub bounds-image-0 : goal.bounds-image-0
bounds-image-0 c =
    let m : old_image_length ≤ length c.args.image.now = at_least c.args.image.now c.requires in
    omega arith

pub returns : goal.returns
returns c = λ i. omega (arith, c.shared_slice_known-1.given i)
