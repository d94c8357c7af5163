use Rattle.update_codec.proofs.TakesRows.{text_is}
use Rattle.update_codec.proofs.values.text_of.Goals as goal

-- what was read is a text
pub from_vec-text-requires : goal.from_vec-text-requires
from_vec-text-requires c =
    text_is c.args.most c.in_ok-len.len c.in_ok-len.after_len.now c.in_ok-text.text.now c.in_ok-text.rest.now c.in_ok-from_slice.field-0.items c.is_utf8.result
    c.requires c.if-most-len.false c.in_ok-text.ensures c.is_utf8.ensures c.if-not-is_utf8.false c.in_ok-from_slice.ensures.items
