-- `answer` meets its contract: the front of a script tells what it prints, and there is room for that.
use Rattle.bench.proofs.Prelude.{ap, sym, ◌∙◌, length, length-take-le, printed}
use Rattle.script.proofs.Buffers.{front_tells, text_held, text_fits}
use Rattle.bench.proofs.answer.Goals as goal

pub slice_bounds-run-end : goal.slice_bounds-run-end
slice_bounds-run-end c =
    sym (length-take-le c.args.got c.args.input.now c.requires.held)

pub returns : goal.returns
returns c =
    let e = c.run.ensures in
    record {
      fits = text_fits _ _ _ _ c.requires.long e.0 e.1;
      text_is = λ l h. text_held _ _ _ _ c.requires.long e.0 e.1 ∙ ap printed h ∙ front_tells l (length c.args.input.now) c.requires.longer;
    }
