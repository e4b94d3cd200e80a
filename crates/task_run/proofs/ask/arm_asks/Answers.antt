-- `arm_asks` meets its contract: a load, a store, each key of the match, and else nothing.
use Rattle.model.proofs.Prelude.{sym, ◌∙◌, arith, made}
use Rattle.task_run.proofs.AsksArms.{none_asks, load_asks, store_asks, pop_asks, unsave_asks, save_asks, push_go_asks, push_go_immediate_asks, push_asks, push_back_asks}
use Rattle.task_run.proofs.ask.arm_asks.Goals as goal

pub returns-then-is_among : goal.returns-then-is_among
returns-then-is_among c = λ pc halt marks mask.
    load_asks _ _ (made _ _ pc halt marks mask) _ _ _ _ _ (c.sum.ensures c.args.special.now pc halt marks mask) _ c.is_foreign.ensures (sym c.is_among.ensures ∙ c.if-is_among.true)

pub returns-then-is_among-2 : goal.returns-then-is_among-2
returns-then-is_among-2 c = λ pc halt marks mask.
    store_asks _ _ (made _ _ pc halt marks mask) _ _ _ _ _ (c.sum-then-is_among-2.ensures c.args.special.now pc halt marks mask) _ c.is_foreign-then-is_among-2.ensures (sym c.is_among-2.ensures ∙ c.if-is_among-2.true)

pub returns-in-190 : goal.returns-in-190
returns-in-190 c = λ pc halt marks mask.
    push_go_asks _ _ (made _ _ pc halt marks mask) _ _ _ _ c.requires.1 _ (c.push_asks.ensures _ pc halt marks mask) c.in-190.is

pub returns-in-191 : goal.returns-in-191
returns-in-191 c = λ pc halt marks mask.
    push_go_immediate_asks _ _ (made _ _ pc halt marks mask) _ _ _ _ c.requires.1 _ (c.push_asks-in-191.ensures _ pc halt marks mask) c.in-191.is

pub returns-in-242 : goal.returns-in-242
returns-in-242 c = λ pc halt marks mask.
    push_asks _ _ (made _ _ pc halt marks mask) _ _ _ _ c.requires.1 _ (c.push_asks-in-242.ensures _ pc halt marks mask) c.in-242.is

pub returns-in-243 : goal.returns-in-243
returns-in-243 c = λ pc halt marks mask.
    push_back_asks _ _ (made _ _ pc halt marks mask) _ _ _ _ c.requires.1 _ (c.push_asks-in-243.ensures _ pc halt marks mask) c.in-243.is

pub returns-in-248 : goal.returns-in-248
returns-in-248 c = λ pc halt marks mask. pop_asks _ _ (made _ _ pc halt marks mask) _ _ _ _ c.in-248.is _ (c.pop_asks.ensures _ pc halt marks mask)

pub returns-in-250 : goal.returns-in-250
returns-in-250 c = λ pc halt marks mask.
    save_asks _ _ (made _ _ pc halt marks mask) _ _ _ _ c.requires.1 c.in-250.is _
    (c.save_asks.ensures c.args.general.now pc halt marks mask)

pub returns-in-251 : goal.returns-in-251
returns-in-251 c = λ pc halt marks mask. unsave_asks _ _ (made _ _ pc halt marks mask) _ _ _ _ c.in-251.is _ c.unsave_asks.ensures

pub returns-in_default : goal.returns-in_default
returns-in_default c = λ pc halt marks mask.
    none_asks _ _ (made _ _ pc halt marks mask) _ _ _ _ (omega arith) (sym c.is_among.ensures ∙ c.if-is_among.false) (sym c.is_among-2.ensures ∙ c.if-is_among-2.false)
    c.in_default.in_default-own.rest
