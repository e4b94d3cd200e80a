-- `store` meets its contract: no byte is written at first, a turn writes one more, and all eight stand in the end.
use Rattle.model.proofs.Prelude.{ℕ, ◌+◌, ◌-◌, List, ap, refl, sym, ◌∙◌, ◌≡◌, arith, get_or, length-set, set, over, bytes_of, eight, over_written}
use Rattle.model.proofs.Prelude.{over_more, over_none}
use Rattle.machine.proofs.OctabyteRuns.{bytes_are}
use Rattle.machine.proofs.octabytes.store.Goals as goal

pub loop-k-init : goal.loop-k-init
loop-k-init c = (sym (over_none _ _ _ _ (omega arith)), refl)

pub loop-k-preserved : goal.loop-k-preserved
loop-k-preserved c =
    let a = c.args in
    let k = c.loop-k.k in
    let f : ℕ → ℕ = λ j. get_or (bytes_of a.v) (j - a.at) 0 in
    let same : k ≡ (a.at + k) - a.at = omega arith in (
      ap (λ (l : List ℕ). set l (a.at + k) (get_or c.to_be_bytes-octa.result k 0)) c.loop-k.invariant.0
          ∙ over_more f a.at (a.at + k) a.bytes.now (get_or c.to_be_bytes-octa.result k 0) (omega arith) (omega arith) (ap (λ (l : List ℕ). get_or l k 0) (c.to_be_bytes-octa.ensures ∙ bytes_are a.v) ∙ ap (λ (j : ℕ). get_or (bytes_of a.v) j 0) same)
          ∙ ap (λ (n : ℕ). over f a.at n a.bytes.now) (omega arith),
      simp length-set c.loop-k.invariant.1,
    )

pub shape_of-bytes : goal.shape_of-bytes
shape_of-bytes c = c.loop-k.invariant.1

pub returns : goal.returns
returns c =
    let e : c.loop-k.k ≡ 8 = omega arith in
    let a = c.args in
    c.loop-k.invariant.0
    ∙ ap (λ (n : ℕ). over (λ j. get_or (bytes_of a.v) (j - a.at) 0) a.at (a.at + n) a.bytes.now) e
    ∙ over_written a.bytes.now a.at (bytes_of a.v) 8 (eight a.v) c.requires
