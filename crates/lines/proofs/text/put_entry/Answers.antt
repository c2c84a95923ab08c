-- Each piece is written behind those before it, a byte by a store and a number into what is still free.
use Rattle.std.proofs.Common.{arith}
use Rattle.lines.proofs.Putting.{enough, spaced, line_fits, line_put, slash_put, column_fits, column_put, slashes_put, value_fits, entry_put}
use Rattle.lines.proofs.text.put_entry.Goals as goal

pub bounds-free-0 : goal.bounds-free-0
bounds-free-0 c = omega (arith, enough c.args.free.now c.args.r c.requires)

pub slice_bounds-put_digits-count : goal.slice_bounds-put_digits-count
slice_bounds-put_digits-count c = omega (arith, (spaced c.args.free.now c.args.r c.requires).long, (spaced c.args.free.now c.args.r c.requires).fits)

pub slice_bounds-put_digits-start : goal.slice_bounds-put_digits-start
slice_bounds-put_digits-start c = omega (arith, (spaced c.args.free.now c.args.r c.requires).long, (spaced c.args.free.now c.args.r c.requires).fits)

pub put_digits-at-requires : goal.put_digits-at-requires
put_digits-at-requires c = line_fits c.args.free.now c.args.r c.requires

pub overflow_add-at : goal.overflow_add-at
overflow_add-at c = omega (arith, (line_put c.args.free.now c.args.r c.requires c.put_digits-at.ensures).fits)

pub bounds-free-at : goal.bounds-free-at
bounds-free-at c = omega (arith, enough c.args.free.now c.args.r c.requires, c.put_digits-at.ensures.0, (line_put c.args.free.now c.args.r c.requires c.put_digits-at.ensures).long)

pub overflow_add-at-2 : goal.overflow_add-at-2
overflow_add-at-2 c = omega (arith, (slash_put c.args.free.now c.args.r c.requires c.put_digits-at.ensures).fits)

pub slice_bounds-put_digits-count-2 : goal.slice_bounds-put_digits-count-2
slice_bounds-put_digits-count-2 c = let s = slash_put c.args.free.now c.args.r c.requires c.put_digits-at.ensures in omega (arith, s.long, s.fits)

pub slice_bounds-put_digits-start-2 : goal.slice_bounds-put_digits-start-2
slice_bounds-put_digits-start-2 c = let s = slash_put c.args.free.now c.args.r c.requires c.put_digits-at.ensures in omega (arith, s.long, s.fits)

pub put_digits-at-requires-2 : goal.put_digits-at-requires-2
put_digits-at-requires-2 c = column_fits c.args.free.now c.args.r c.requires c.put_digits-at.ensures

pub overflow_add-at-3 : goal.overflow_add-at-3
overflow_add-at-3 c = omega (arith, (column_put c.args.free.now c.args.r c.requires c.put_digits-at.ensures c.put_digits-at-2.ensures).fits)

pub bounds-free-at-2 : goal.bounds-free-at-2
bounds-free-at-2 c = omega (arith, enough c.args.free.now c.args.r c.requires, c.put_digits-at.ensures.0, c.put_digits-at-2.ensures.0, (column_put c.args.free.now c.args.r c.requires c.put_digits-at.ensures c.put_digits-at-2.ensures).long)

pub overflow_add-at-4 : goal.overflow_add-at-4
overflow_add-at-4 c = omega (arith, (slashes_put c.args.free.now c.args.r c.requires c.put_digits-at.ensures c.put_digits-at-2.ensures).fits)

pub slice_bounds-put_digits-count-3 : goal.slice_bounds-put_digits-count-3
slice_bounds-put_digits-count-3 c = let s = slashes_put c.args.free.now c.args.r c.requires c.put_digits-at.ensures c.put_digits-at-2.ensures in omega (arith, s.long, s.fits)

pub slice_bounds-put_digits-start-3 : goal.slice_bounds-put_digits-start-3
slice_bounds-put_digits-start-3 c = let s = slashes_put c.args.free.now c.args.r c.requires c.put_digits-at.ensures c.put_digits-at-2.ensures in omega (arith, s.long, s.fits)

pub put_digits-at-requires-3 : goal.put_digits-at-requires-3
put_digits-at-requires-3 c = value_fits c.args.free.now c.args.r c.requires c.put_digits-at.ensures c.put_digits-at-2.ensures

pub overflow_add-at-5 : goal.overflow_add-at-5
overflow_add-at-5 c = omega (arith, (entry_put c.args.free.now c.args.r c.requires c.put_digits-at.ensures c.put_digits-at-2.ensures c.put_digits-at-3.ensures).fits)

pub returns : goal.returns
returns c = let w = entry_put c.args.free.now c.args.r c.requires c.put_digits-at.ensures c.put_digits-at-2.ensures c.put_digits-at-3.ensures in (w.end, w.bytes)
