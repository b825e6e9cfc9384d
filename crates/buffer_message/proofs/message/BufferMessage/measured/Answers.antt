use Rattle.std.proofs.Common.{arith}
use Rattle.std.proofs.lemmas.List.{length-map}
use Rattle.frame_select.specs.Item.{item_of}
use Rattle.buffer_message.proofs.Fit.{fits_parts}
use Rattle.buffer_message.proofs.Reading.{is_read}
use Rattle.buffer_message.proofs.message.BufferMessage.measured.Goals as goal

pub invariant_of-result : goal.invariant_of-result
invariant_of-result c =
    let fits = fits_parts _ c.requires.items in
    record {
      in_range = fits.in_range;
      moment = c.requires.moment;
      number = c.requires.number;
      content_is = c.measure-content.ensures.exact;
      read = is_read c.buffer_is_head_and_encoded.ensures c.buffers_are_exact.ensures
          c.canonical_spells.ensures _ _ _ _ c.measure-content.ensures.fit fits.few
          (omega (
            arith,
            c.measure-content.ensures.small,
            c.measure-content.ensures.exact,
            fits.short,
            fits.few,
            length-map c.args.items.now item_of,
          ));
    }

pub returns-clause-read : goal.returns-clause-read
returns-clause-read c =
    let fits = fits_parts _ c.requires.items in
    is_read c.buffer_is_head_and_encoded.ensures c.buffers_are_exact.ensures
    c.canonical_spells.ensures _ _ _ _ c.measure-content.ensures.fit fits.few
    (omega (
      arith,
      c.measure-content.ensures.small,
      c.measure-content.ensures.exact,
      fits.short,
      fits.few,
      length-map c.args.items.now item_of,
    ))
