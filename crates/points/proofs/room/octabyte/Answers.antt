-- `octabyte` meets its contract: a run of one.
use Rattle.model.proofs.Prelude.{ℕ, List, [], ◌∷◌, ap, refl, ◌∙◌, ◌≡◌, arith, get_or, part, value_of}
use Rattle.machine.specs.Octabytes.{octas}
use Rattle.machine.proofs.OctabyteRuns.{loaded_fits}
use Rattle.points.proofs.room.octabyte.Goals as goal

one_octa : (l : List ℕ) (o : ℕ) → get_or (octas l o 1) 0 0 ≡ value_of 0 (part l o 8)
unfolding octas
one_octa l o = refl

pub returns : goal.returns
returns c =
    let a = c.args in
    ap (λ (v : List ℕ). get_or v 0 0) (c.load_octas.ensures ∙ loaded_fits a.room.now a.at (0 ∷ []) (omega arith)) ∙ one_octa a.room.now a.at
