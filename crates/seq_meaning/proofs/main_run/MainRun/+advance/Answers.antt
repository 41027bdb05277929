use Rattle.std.proofs.Common.{◌≡◌, ◌<◌, ◌+◌, ℕ, suc, arith, sym, subst}
use Rattle.std.specs.Prelude.{Some, None}
use Rattle.seq_meaning.specs.MainRuns.{InnerBlock, KeepsShape, HasEvent, AreFewer, block_at}
use Rattle.seq_meaning.specs.Internal.RunSteps.{events_at}
use Rattle.seq_meaning.specs.Runs.{ScopeClosed}
use Rattle.seq_meaning.proofs.MainAdvanceLemmas.{advances_at, keeps_at, can_at, can_inside, block_within, counts_at, keeps_left, advances_around, fewer_around, fewer_left, leaves, stands_inside}
use Rattle.seq_meaning.proofs.MainHereLemmas.{stands_below}
use Rattle.seq_meaning.proofs.main_run.MainRun.+advance.Goals as goal

plus_one : (level : ℕ) → level + 1 ≡ suc level
plus_one level = omega arith

pub innermost-requires : goal.innermost-requires
innermost-requires t c = let l = stands_below c.requires.stands.stands in omega (arith, l)

pub run_items-requires-clause-innermost : goal.run_items-requires-clause-innermost
run_items-requires-clause-innermost t c = let l = stands_below c.requires.stands.stands in omega (arith, l, c.innermost.ensures, c.if-level-innermost.true)

pub advance-requires : goal.advance-requires
advance-requires t c =
    let deep : suc c.args.level < c.args.self.now.depth = omega (arith, c.innermost.ensures, c.if-level-innermost.false) in (
      omega (arith, c.decreases, deep),
      can_at c.args.self.now c.args.level (c.args.level + 1) c.in_ok-block.block.now.items c.as_slice.result.now (plus_one c.args.level) c.as_slice.ensures
          (can_inside c.requires deep c.frame-frame.result c.frame-frame.ensures (record { block = c.in_ok-block.block.now; is_repeated = c.in_ok-block.is_repeated }) (sym c.in_ok-block.ensures.block) c.in_ok-block.ensures.deeper),
    )

pub returns-in-Some-clause-advanced : goal.returns-in-Some-clause-advanced
returns-in-Some-clause-advanced t c = λ w outside p remaining s.
    let deep : suc c.args.level < c.args.self.now.depth = omega (arith, c.innermost.ensures, c.if-level-innermost.false) in
    let inner : InnerBlock = record { block = c.in_ok-block.block.now; is_repeated = c.in_ok-block.is_repeated } in
    let found : block_at c.args.items.now c.frame-frame.result ≡ Some inner = sym c.in_ok-block.ensures.block in
    advances_around s deep c.frame-frame.result c.frame-frame.ensures inner found c.in_ok-block.ensures.deeper c.advance.new.self
    (keeps_at c.args.self.now c.advance.new.self c.args.level (c.args.level + 1) (plus_one c.args.level) c.advance.ensures.keeps) c.in-Some.step
    (advances_at c.args.self.now c.advance.new.self c.args.level (c.args.level + 1) c.in_ok-block.block.now.items c.as_slice.result.now (Some c.in-Some.step) (plus_one c.args.level) c.as_slice.ensures c.in-Some.ensures.advanced
    w _ p _ (stands_inside s deep c.frame-frame.result c.frame-frame.ensures inner found c.in_ok-block.ensures.deeper))

pub leave-requires-clause-frame : goal.leave-requires-clause-frame
leave-requires-clause-frame t c = block_within c.args.items.now c.frame-frame.result (record { block = c.in_ok-block.block.now; is_repeated = c.in_ok-block.is_repeated }) (sym c.in_ok-block.ensures.block)

pub returns-clause-advanced : goal.returns-clause-advanced
returns-clause-advanced t c = λ w outside p remaining s.
    let deep : suc c.args.level < c.args.self.now.depth = omega (arith, c.innermost.ensures, c.if-level-innermost.false) in
    let inner : InnerBlock = record { block = c.in_ok-block.block.now; is_repeated = c.in_ok-block.is_repeated } in
    let found : block_at c.args.items.now c.frame-frame.result ≡ Some inner = sym c.in_ok-block.ensures.block in
    subst (HasEvent w (ScopeClosed c.in_ok-block.block.now.scope) AreFewer c.args.level outside c.args.items.now p remaining) (sym c.leave.ensures)
    (leaves s deep c.frame-frame.result c.frame-frame.ensures inner found c.in_ok-block.ensures.deeper c.advance.new.self
    (keeps_at c.args.self.now c.advance.new.self c.args.level (c.args.level + 1) (plus_one c.args.level) c.advance.ensures.keeps)
    (advances_at c.args.self.now c.advance.new.self c.args.level (c.args.level + 1) c.in_ok-block.block.now.items c.as_slice.result.now None (plus_one c.args.level) c.as_slice.ensures c.in_default.ensures.advanced
    w _ p _ (stands_inside s deep c.frame-frame.result c.frame-frame.ensures inner found c.in_ok-block.ensures.deeper)))

pub returns-clause-keeps : goal.returns-clause-keeps
returns-clause-keeps t c =
    subst (KeepsShape c.args.level c.args.self.now) (sym c.leave.ensures)
    (keeps_left c.args.level c.args.self.now c.advance.new.self c.frame-frame.result c.in_ok-block.is_repeated
    (keeps_at c.args.self.now c.advance.new.self c.args.level (c.args.level + 1) (plus_one c.args.level) c.advance.ensures.keeps))

pub returns-in-Some-clause-fewer : goal.returns-in-Some-clause-fewer
returns-in-Some-clause-fewer t c = λ worth l.
    let deep : suc c.args.level < c.args.self.now.depth = omega (arith, c.innermost.ensures, c.if-level-innermost.false) in
    let inner : InnerBlock = record { block = c.in_ok-block.block.now; is_repeated = c.in_ok-block.is_repeated } in
    let found : block_at c.args.items.now c.frame-frame.result ≡ Some inner = sym c.in_ok-block.ensures.block in
    fewer_around c.requires.stands deep c.frame-frame.result c.frame-frame.ensures inner found c.in_ok-block.ensures.deeper c.advance.new.self
    (keeps_at c.args.self.now c.advance.new.self c.args.level (c.args.level + 1) (plus_one c.args.level) c.advance.ensures.keeps) worth c.in-Some.step
    (advances_at c.args.self.now c.advance.new.self c.args.level (c.args.level + 1) c.in_ok-block.block.now.items c.as_slice.result.now (Some c.in-Some.step) (plus_one c.args.level) c.as_slice.ensures c.in-Some.ensures.advanced
    c.requires.w _ c.requires.p _ (stands_inside c.requires.stands deep c.frame-frame.result c.frame-frame.ensures inner found c.in_ok-block.ensures.deeper))
    (counts_at c.args.self.now c.advance.new.self c.args.level (c.args.level + 1) c.in_ok-block.block.now.items c.as_slice.result.now (Some c.in-Some.step) (plus_one c.args.level) c.as_slice.ensures c.in-Some.ensures.fewer
    worth (omega (arith, l, c.in_ok-block.ensures.fewer)))

pub returns-clause-fewer : goal.returns-clause-fewer
returns-clause-fewer t c = λ worth l.
    let deep : suc c.args.level < c.args.self.now.depth = omega (arith, c.innermost.ensures, c.if-level-innermost.false) in
    let inner : InnerBlock = record { block = c.in_ok-block.block.now; is_repeated = c.in_ok-block.is_repeated } in
    let found : block_at c.args.items.now c.frame-frame.result ≡ Some inner = sym c.in_ok-block.ensures.block in
    subst (λ after. events_at worth c.args.level c.args.items.now after < events_at worth c.args.level c.args.items.now c.args.self.now) (sym c.leave.ensures)
    (fewer_left c.requires.stands deep c.frame-frame.result c.frame-frame.ensures inner found c.in_ok-block.ensures.deeper c.advance.new.self
    (keeps_at c.args.self.now c.advance.new.self c.args.level (c.args.level + 1) (plus_one c.args.level) c.advance.ensures.keeps) worth
    (counts_at c.args.self.now c.advance.new.self c.args.level (c.args.level + 1) c.in_ok-block.block.now.items c.as_slice.result.now None (plus_one c.args.level) c.as_slice.ensures c.in_default.ensures.fewer
    worth (omega (arith, l, c.in_ok-block.ensures.fewer))))
