use Rattle.std.proofs.Common.{rules}
use Rattle.std.specs.Prelude.{◌↔◌, IsTrue, IsUtf8}
use Rattle.update_codec.proofs.ToldFields.{utf8_test}
use Rattle.update_codec.proofs.values.is_utf8.Goals as goal

pub returns : goal.returns
returns c =
    let decides : IsTrue c.is_ok.result ↔ IsUtf8 c.args.bytes.now = search rules in
    utf8_test c.is_ok.result c.args.bytes.now decides
