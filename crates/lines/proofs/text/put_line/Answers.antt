-- The line is put together aside, and copied where the buffer has place for it.
use Rattle.std.proofs.Common.{◌+◌, ℕ, List, ◌++◌, take, drop, length-take-le, Some, ap, sym, ◌∙◌, arith}
use Rattle.numbers.proofs.Spliced.{spliced_front}
use Rattle.lines.specs.Line.{line_text}
use Rattle.lines.proofs.Front.{front_taken}
use Rattle.lines.proofs.LineLaws.{length-entries-most, in_short, in_fits}
use Rattle.lines.proofs.Putting.{length_all, numbered, entries_fit, place, entered, ending_fits, whole_line}
use Rattle.lines.proofs.text.put_line.Goals as goal

pub put_digits-at-requires : goal.put_digits-at-requires
put_digits-at-requires c = omega (arith, length_all c.args.number c.args.n c.args.readings c.args.wording.now c.requires (length-entries-most c.args.readings c.well_formed.1.1.0.0 c.well_formed.1.1.0.1.1 c.args.n) c.trimmed_length-shown.ensures)

pub slice_bounds-put_entries-count : goal.slice_bounds-put_entries-count
slice_bounds-put_entries-count c = (numbered c.args.number c.args.n c.args.readings c.args.wording.now c.requires (length-entries-most c.args.readings c.well_formed.1.1.0.0 c.well_formed.1.1.0.1.1 c.args.n) c.trimmed_length-shown.ensures c.put_digits-at.ensures).fits

pub slice_bounds-text-start : goal.slice_bounds-text-start
slice_bounds-text-start c = (numbered c.args.number c.args.n c.args.readings c.args.wording.now c.requires (length-entries-most c.args.readings c.well_formed.1.1.0.0 c.well_formed.1.1.0.1.1 c.args.n) c.trimmed_length-shown.ensures c.put_digits-at.ensures).fits

pub put_entries-at-requires : goal.put_entries-at-requires
put_entries-at-requires c = entries_fit c.args.number c.args.n c.args.readings c.args.wording.now c.requires (length-entries-most c.args.readings c.well_formed.1.1.0.0 c.well_formed.1.1.0.1.1 c.args.n) c.trimmed_length-shown.ensures c.put_digits-at.ensures

pub overflow_add-at : goal.overflow_add-at
overflow_add-at c = omega (arith, place c.args.number c.args.n c.args.readings c.args.wording.now c.requires (length-entries-most c.args.readings c.well_formed.1.1.0.0 c.well_formed.1.1.0.1.1 c.args.n) c.trimmed_length-shown.ensures c.put_digits-at.ensures c.put_entries-at.ensures)

pub slice_bounds-put_ending-count : goal.slice_bounds-put_ending-count
slice_bounds-put_ending-count c = (entered c.args.number c.args.n c.args.readings c.args.wording.now c.requires (length-entries-most c.args.readings c.well_formed.1.1.0.0 c.well_formed.1.1.0.1.1 c.args.n) c.trimmed_length-shown.ensures c.put_digits-at.ensures c.put_entries-at.ensures).fits

pub slice_bounds-text-start-2 : goal.slice_bounds-text-start-2
slice_bounds-text-start-2 c = (entered c.args.number c.args.n c.args.readings c.args.wording.now c.requires (length-entries-most c.args.readings c.well_formed.1.1.0.0 c.well_formed.1.1.0.1.1 c.args.n) c.trimmed_length-shown.ensures c.put_digits-at.ensures c.put_entries-at.ensures).fits

pub put_ending-requires : goal.put_ending-requires
put_ending-requires c = (c.trimmed_length-shown.ensures.0, (c.trimmed_length-shown.ensures.1, ending_fits c.args.number c.args.n c.args.readings c.args.wording.now c.requires (length-entries-most c.args.readings c.well_formed.1.1.0.0 c.well_formed.1.1.0.1.1 c.args.n) c.trimmed_length-shown.ensures c.put_digits-at.ensures c.put_entries-at.ensures))

pub overflow_add-total : goal.overflow_add-total
overflow_add-total c = omega (arith, (whole_line c.args.number c.args.n c.args.readings c.args.wording.now c.requires (length-entries-most c.args.readings c.well_formed.1.1.0.0 c.well_formed.1.1.0.1.1 c.args.n) c.trimmed_length-shown.ensures c.put_digits-at.ensures c.put_entries-at.ensures c.put_ending.ensures).fits)

pub overflow_add-total-2 : goal.overflow_add-total-2
overflow_add-total-2 c = omega (arith, (whole_line c.args.number c.args.n c.args.readings c.args.wording.now c.requires (length-entries-most c.args.readings c.well_formed.1.1.0.0 c.well_formed.1.1.0.1.1 c.args.n) c.trimmed_length-shown.ensures c.put_digits-at.ensures c.put_entries-at.ensures c.put_ending.ensures).fits)

pub returns-then-buffer-total : goal.returns-then-buffer-total
returns-then-buffer-total c =
    let l = whole_line c.args.number c.args.n c.args.readings c.args.wording.now c.requires (length-entries-most c.args.readings c.well_formed.1.1.0.0 c.well_formed.1.1.0.1.1 c.args.n) c.trimmed_length-shown.ensures c.put_digits-at.ensures c.put_entries-at.ensures c.put_ending.ensures in
    let s = in_short c.args.buffer.now (line_text c.args.number (take c.args.n c.args.readings) c.args.wording.now) (omega (arith, l.end, c.if-buffer-total.true)) in
    (sym s.0, (sym s.1, omega (arith, l.end, l.fits)))

pub slice_bounds-text-end-3 : goal.slice_bounds-text-end-3
slice_bounds-text-end-3 c = let l = whole_line c.args.number c.args.n c.args.readings c.args.wording.now c.requires (length-entries-most c.args.readings c.well_formed.1.1.0.0 c.well_formed.1.1.0.1.1 c.args.n) c.trimmed_length-shown.ensures c.put_digits-at.ensures c.put_entries-at.ensures c.put_ending.ensures in omega (arith, l.fits, l.long)

pub slice_bounds-copy_from_slice-end-3 : goal.slice_bounds-copy_from_slice-end-3
slice_bounds-copy_from_slice-end-3 c = let l = whole_line c.args.number c.args.n c.args.readings c.args.wording.now c.requires (length-entries-most c.args.readings c.well_formed.1.1.0.0 c.well_formed.1.1.0.1.1 c.args.n) c.trimmed_length-shown.ensures c.put_digits-at.ensures c.put_entries-at.ensures c.put_ending.ensures in sym (length-take-le _ _ (omega (arith, l.fits, l.long)))

pub copy_from_slice-requires : goal.copy_from_slice-requires
copy_from_slice-requires c =
    let l = whole_line c.args.number c.args.n c.args.readings c.args.wording.now c.requires (length-entries-most c.args.readings c.well_formed.1.1.0.0 c.well_formed.1.1.0.1.1 c.args.n) c.trimmed_length-shown.ensures c.put_digits-at.ensures c.put_entries-at.ensures c.put_ending.ensures in
    length-take-le _ c.args.buffer.now (omega (arith, c.if-buffer-total.false)) ∙ sym (length-take-le _ _ (omega (arith, l.fits, l.long)))

pub returns : goal.returns
returns c =
    let l = whole_line c.args.number c.args.n c.args.readings c.args.wording.now c.requires (length-entries-most c.args.readings c.well_formed.1.1.0.0 c.well_formed.1.1.0.1.1 c.args.n) c.trimmed_length-shown.ensures c.put_digits-at.ensures c.put_entries-at.ensures c.put_ending.ensures in
    let text = line_text c.args.number (take c.args.n c.args.readings) c.args.wording.now in
    let f = in_fits c.args.buffer.now text (omega (arith, l.end, c.if-buffer-total.false)) in (
      ap Some l.end ∙ sym f.0,
      (
        ap (λ (b : List ℕ). b ++ drop (c.put_digits-at.result + c.put_entries-at.result + c.trimmed_length-shown.result + 3) c.args.buffer.now) (c.copy_from_slice.ensures.after ∙ front_taken l)
            ∙ ap (λ (k : ℕ). text ++ drop k c.args.buffer.now) l.end ∙ sym (f.1 ∙ spliced_front c.args.buffer.now text),
        omega (arith, l.end, l.fits),
      ),
    )
