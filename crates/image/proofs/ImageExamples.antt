-- The examples of images, carried through the definitions by a result that antt computes.
use Rattle.model.proofs.Prelude.{refl, bytes_of, part, value_of}
use Rattle.image.proofs.Prelude.{flat, octas}
use Rattle.image.specs.Image.{image_of, old_image_of, state_of, is_image, has_room}
use Rattle.image.specs.examples.ImageExamples.{image_examples, state_examples, length_examples, room_examples, ImageExamplesMet}

pub image_examples_met : ImageExamplesMet
unfolding image_examples state_examples length_examples room_examples image_of old_image_of state_of is_image has_room flat octas part value_of bytes_of
image_examples_met = (refl, refl, refl, refl)
