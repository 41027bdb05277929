use Rattle.std.proofs.Common.{◌<◌, length, arith, rules}
use Rattle.liszt_base.proofs.Cuts.{is_place, piece_at}
use Rattle.liszt_base.proofs.plain_lists.PlainLists.of.Goals as goal

pub start_of-start-requires : goal.start_of-start-requires
start_of-start-requires g c =
    let a = c.self.inside in
    let inside : c.args.place < length a.ends.items = is_place 0 a.items.items a.ends.items c.args.place c.args.self.now c.self.view_is c.requires in
    omega (arith, c.as_slice.ensures.len, a.ends.ok.0)

pub index-end-requires : goal.index-end-requires
index-end-requires g c =
    let a = c.self.inside in
    let inside : c.args.place < length a.ends.items = is_place 0 a.items.items a.ends.items c.args.place c.args.self.now c.self.view_is c.requires in
    omega (arith, a.ends.ok.0)

pub offset_bounds-as_slice-start : goal.offset_bounds-as_slice-start
offset_bounds-as_slice-start g c =
    let a = c.self.inside in
    let p = piece_at a.items.items c.as_slice-2.result.now a.ends.items c.as_slice.result.now c.args.place c.start_of-start.result c.index-end.result.now
    c.args.self.now c.self.view_is c.self.invariant c.requires c.as_slice.ensures.value c.as_slice-2.ensures.value c.start_of-start.ensures
    c.index-end.ensures in
    omega (arith, p.rises, p.fits)

pub slice_bounds-result-count : goal.slice_bounds-result-count
slice_bounds-result-count g c =
    let a = c.self.inside in
    let p = piece_at a.items.items c.as_slice-2.result.now a.ends.items c.as_slice.result.now c.args.place c.start_of-start.result c.index-end.result.now
    c.args.self.now c.self.view_is c.self.invariant c.requires c.as_slice.ensures.value c.as_slice-2.ensures.value c.start_of-start.ensures
    c.index-end.ensures in
    p.rises

pub slice_bounds-result-start : goal.slice_bounds-result-start
slice_bounds-result-start g c =
    let a = c.self.inside in
    let p = piece_at a.items.items c.as_slice-2.result.now a.ends.items c.as_slice.result.now c.args.place c.start_of-start.result c.index-end.result.now
    c.args.self.now c.self.view_is c.self.invariant c.requires c.as_slice.ensures.value c.as_slice-2.ensures.value c.start_of-start.ensures
    c.index-end.ensures in
    let rises = p.rises in
    let fits = p.fits in
    search rules

pub slice_bounds-result-end : goal.slice_bounds-result-end
slice_bounds-result-end g c =
    let a = c.self.inside in
    let p = piece_at a.items.items c.as_slice-2.result.now a.ends.items c.as_slice.result.now c.args.place c.start_of-start.result c.index-end.result.now
    c.args.self.now c.self.view_is c.self.invariant c.requires c.as_slice.ensures.value c.as_slice-2.ensures.value c.start_of-start.ensures
    c.index-end.ensures in
    let rises = p.rises in
    let fits = p.fits in
    search rules

pub returns : goal.returns
returns g c =
    let a = c.self.inside in
    (piece_at a.items.items c.as_slice-2.result.now a.ends.items c.as_slice.result.now c.args.place c.start_of-start.result c.index-end.result.now
    c.args.self.now c.self.view_is c.self.invariant c.requires c.as_slice.ensures.value c.as_slice-2.ensures.value c.start_of-start.ensures
    c.index-end.ensures).is
