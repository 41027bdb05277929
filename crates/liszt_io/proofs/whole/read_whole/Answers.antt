use Rattle.std.proofs.Common.{◌≡◌, ◌≤◌, ◌<◌, ◌+◌, ◌-◌, ◌∙◌, arith, ap, length, length-append, length-take}
use Rattle.liszt_io.proofs.PieceLemmas.{reading_begins, reading_continues, reading_ends, reading_fails, reading_is_long}
use Rattle.liszt_io.proofs.whole.read_whole.Goals as goal

pub loop-bytes-init : goal.loop-bytes-init
loop-bytes-init g c =
    let none : length c.new-bytes.result ≡ 0 = ap length c.new-bytes.ensures in
    (omega arith, omega arith, c.in-Ok.ensures.contents, c.in-Ok.ensures.cause.kept, λ files h. reading_begins files c.args.name.now c.new-bytes.result _ _ _ c.new-bytes.ensures (c.in-Ok.ensures.opens files h))

pub returns-in-Err-read-clause-whole : goal.returns-in-Err-read-clause-whole
returns-in-Err-read-clause-whole g c files h =
    let loop = c.loop-bytes.invariant in
    let r = loop.4 files h in
    let failed = c.in-Err-read.ensures.reads files c.args.name.now r.all (length c.loop-bytes.bytes) (loop.2 ∙ h) r.at r.contents in
    reading_fails files c.args.name.now c.loop-bytes.bytes _ _ _ _ r failed.1

pub returns-in-Ok-eq0-clause-whole : goal.returns-in-Ok-eq0-clause-whole
returns-in-Ok-eq0-clause-whole g c files h =
    let loop = c.loop-bytes.invariant in
    let r = loop.4 files h in
    let given = c.in-Ok-eq0.ensures.reads files c.args.name.now r.all (length c.loop-bytes.bytes) (loop.2 ∙ h) r.at r.contents in
    let room : 0 < length c.read.new.buf = omega (arith, c.read.auto.buf) in
    let whole = reading_ends files c.args.name.now c.loop-bytes.bytes c.read.new.buf c.in-Ok-eq0.field-0 _ _ _ _ _ r c.in-Ok-eq0.field-0-test room given in
    (whole.0, loop.0, whole.1)

pub returns-then-count-limit-clause-whole : goal.returns-then-count-limit-clause-whole
returns-then-count-limit-clause-whole g c files h =
    let loop = c.loop-bytes.invariant in
    let r = loop.4 files h in
    let given = c.in-Ok-read.ensures.reads files c.args.name.now r.all (length c.loop-bytes.bytes) (loop.2 ∙ h) r.at r.contents in
    let more : c.args.limit - length c.loop-bytes.bytes < c.in-Ok-read.count = omega (arith, ap length c.as_slice.ensures) in
    reading_is_long files c.args.name.now c.loop-bytes.bytes c.read.new.buf c.in-Ok-read.count c.args.limit _ _ _ _ _ r loop.0 more given

pub loop-bytes-preserved : goal.loop-bytes-preserved
loop-bytes-preserved g c =
    let loop = c.loop-bytes.invariant in
    let count = c.in-Ok-read.count in
    let new_is = c.in-Ok-extend.ensures.ok in
    let size : length c.extend.new.self ≤ length c.loop-bytes.bytes + count = omega (arith, simp (length-append, length-take) at (ap length new_is)) in
    let within : length c.extend.new.self ≤ c.args.limit = omega (arith, ap length c.as_slice.ensures) in
    let room : 0 < length c.read.new.buf = omega (arith, c.read.auto.buf) in (
      within,
      room,
      c.in-Ok-read.ensures.contents ∙ loop.2,
      c.in-Ok-read.ensures.cause.kept ∙ loop.3,
      λ files h.
          let r = loop.4 files h in
          let given = c.in-Ok-read.ensures.reads files c.args.name.now r.all (length c.loop-bytes.bytes) (loop.2 ∙ h) r.at r.contents in
          let next = reading_continues files c.args.name.now c.loop-bytes.bytes c.read.new.buf count _ _ _ _ _ r given in
          rw new_is next,
    )

pub returns-in-Err-extend-clause-whole : goal.returns-in-Err-extend-clause-whole
returns-in-Err-extend-clause-whole g c files h =
    let loop = c.loop-bytes.invariant in
    let r = loop.4 files h in
    let given = c.in-Ok-read.ensures.reads files c.args.name.now r.all (length c.loop-bytes.bytes) (loop.2 ∙ h) r.at r.contents in
    given.2 ∙ r.tally
