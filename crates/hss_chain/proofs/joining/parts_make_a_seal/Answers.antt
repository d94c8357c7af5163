use Rattle.std.proofs.Common.{refl}
use Rattle.hss_chain.specs.Keys.{key_bytes}
use Rattle.hss_chain.proofs.joining.parts_make_a_seal.Goals as goal

pub returns : goal.returns
returns c top low top_sig low_sig msg top_key low_key first second = record {
  parts = record { top = top; top_sig = top_sig; low = low; low_sig = low_sig };
  have = record { key_is = refl; sig_is = refl; top_key = top_key; low_key = low_key; top_size = c.signed_has_length.ensures.length top (key_bytes low) top_sig first };
  top = first;
  low = second;
}
