-- 01's sample script, carried through the definitions by one result that antt computes.
use Rattle.model.proofs.Prelude.{refl, start, target_of, indexed, over, tab, within, count_of, framed, hole, last_output, misplaced, no_frame, pop_frame, popped}
use Rattle.model.proofs.Prelude.{pop_rule, pop_to, pushed, pushed_rule, push_frame, restored, slid, slide, unslide, both, has, inside, octa_at, octa_bytes, offset}
use Rattle.model.proofs.Prelude.{put_octa, ruled, ruled_one, shape_of, shapes_of, shares, write_octa, tell, bytes_of, octa, part, value_of, written, arm_of}
use Rattle.model.proofs.Prelude.{condition_of, look, looks, named, perform, puts, worst, admissible, claim_local, cleared, fresh, goes, set_register, spilled}
use Rattle.model.proofs.Prelude.{stored, with_special, from_three, guarded, judged, plan_of, refusal_of, refusing, step_of, step_plan, unruled_by}
use Rattle.script.proofs.Prelude.{codes, digit_of, number_of, pieces, bad_line, bad_text, filled, glyph, numeral}
use Rattle.script.specs.Line.{register_line, special_line, step_line, digits_at, is_number, matched, register_form, special_form, step_form, line_of}
use Rattle.script.specs.Script.{done_line, refused_line, step_text, form_turn, carried, windows, printed, sample, sample_text, SamplePrinted}

pub sample_printed : SamplePrinted
unfolding over indexed within tab octa part written value_of bytes_of admissible fresh goes with_special cleared claim_local stored set_register spilled shape_of ruled_one offset has octa_bytes write_octa shapes_of inside octa_at put_octa both ruled shares worst named look looks puts perform condition_of arm_of tell target_of hole framed slid slide pushed_rule pushed push_frame count_of last_output restored unslide popped pop_to pop_rule no_frame misplaced pop_frame refusal_of unruled_by judged guarded from_three refusing plan_of step_plan step_of start codes glyph numeral filled register_line special_line step_line digit_of digits_at is_number number_of matched register_form special_form step_form line_of done_line refused_line bad_line step_text bad_text form_turn pieces carried windows printed sample sample_text
sample_printed = refl
