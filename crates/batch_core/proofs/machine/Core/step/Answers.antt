use Rattle.std.proofs.Common.{rules, ◌≡◌, ◌<◌, sym, ap, subst, ◌∙◌, length, to_z, of_z, w64}
use Rattle.batch_core.specs.Machine.{Machine, HasSizesOf, InRange, answer, step}
use Rattle.batch_core.specs.Internal.Steps.{worker_after}
use Rattle.batch_core.proofs.StepLemmas.{at_index, step_made, acted_answer, next_in_range, range_kept, sizes_kept}
use Rattle.batch_core.proofs.machine.Core.step.Goals as goal

pub returns-clause-machine : goal.returns-clause-machine
returns-clause-machine c =
    let inside = c.self.inside in
    let m : Machine = record { words = inside.words; workers = inside.workers.items } in
    let lt : c.args.worker < length inside.workers.items = subst (λ (z : Machine). c.args.worker < length z.workers) (sym c.self.view_is) c.requires in
    let same : to_z w64 (of_z w64 c.perform-after.result) ≡ c.perform-after.result = search rules in
    let reg : to_z w64 (of_z w64 c.register-register.result) ≡ c.register-register.result = search rules in
    step_made m c.args.worker c.index.result.now c.index-2.result.now c.index_mut.result.now c.in-Some.act
    (to_z w64 (of_z w64 c.register-register.result)) c.perform-after.result c.perform-after.new.words c.advance.new.self
    (at_index inside.workers.items c.args.worker c.index.result.now lt c.index.ensures)
    (at_index inside.workers.items c.args.worker c.index-2.result.now lt c.index-2.ensures)
    (at_index inside.workers.items c.args.worker c.index_mut.result.now lt c.index_mut.ensures.value)
    (reg ∙ c.register-register.ensures) (sym c.next_act.ensures ∙ c.in-Some.is) c.perform-after.ensures.words c.perform-after.ensures.register
    (c.advance.ensures ∙ ap (λ z. worker_after z c.index_mut.result.now.acts) same)
    ∙ ap (λ z. step z c.args.worker) c.self.view_is

pub perform-after-requires : goal.perform-after-requires
perform-after-requires c =
    let inside = c.self.inside in
    let m : Machine = record { words = inside.words; workers = inside.workers.items } in
    let lt : c.args.worker < length inside.workers.items = subst (λ (z : Machine). c.args.worker < length z.workers) (sym c.self.view_is) c.requires in
    next_in_range m c.args.worker c.index-2.result.now c.in-Some.act c.self.invariant
    (at_index inside.workers.items c.args.worker c.index-2.result.now lt c.index-2.ensures) (sym c.next_act.ensures ∙ c.in-Some.is)

pub invariant_of-self : goal.invariant_of-self
invariant_of-self c =
    let inside = c.self.inside in
    let m : Machine = record { words = inside.words; workers = inside.workers.items } in
    subst InRange (sym (returns-clause-machine c ∙ ap (λ z. step z c.args.worker) (sym c.self.view_is))) (range_kept m c.args.worker c.self.invariant)

pub returns-clause-answer : goal.returns-clause-answer
returns-clause-answer c =
    let inside = c.self.inside in
    let m : Machine = record { words = inside.words; workers = inside.workers.items } in
    let lt : c.args.worker < length inside.workers.items = subst (λ (z : Machine). c.args.worker < length z.workers) (sym c.self.view_is) c.requires in
    sym (ap (λ z. answer z c.args.worker) (sym c.self.view_is) ∙ acted_answer m c.args.worker c.index-2.result.now c.in-Some.act
    (at_index inside.workers.items c.args.worker c.index-2.result.now lt c.index-2.ensures) (sym c.next_act.ensures ∙ c.in-Some.is))

pub returns-clause-sizes : goal.returns-clause-sizes
returns-clause-sizes c =
    subst (HasSizesOf c.args.self.now) (sym (returns-clause-machine c)) (sizes_kept c.args.self.now c.args.worker)
