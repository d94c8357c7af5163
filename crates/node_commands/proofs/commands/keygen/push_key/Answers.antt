use Rattle.std.proofs.Common.{◌≡◌, ◌++◌, ◌∷◌, [], rules}
use Rattle.hex.specs.Hex.{encode_lower}
use Rattle.std.specs.Int.{w32, to_be_bytes}
use Rattle.node_commands.proofs.NewKeys.{key_pushed}
use Rattle.node_commands.proofs.commands.keygen.push_key.Goals as goal

pub returns : goal.returns
returns c =
    let a : c.encode_to_slice.new.output ≡ encode_lower (to_be_bytes w32 c.args.key.now.lms) = search rules in
    let b : c.encode_to_slice-2.new.output ≡ encode_lower (to_be_bytes w32 c.args.key.now.ots) = search rules in
    let i : c.encode_to_slice-3.new.output ≡ encode_lower c.args.key.now.ident = search rules in
    let r : c.encode_to_slice-4.new.output ≡ encode_lower c.args.key.now.root = search rules in
    let x1 : c.extend_from_slice.new.self.items ≡ c.args.line.now.items ++ c.encode_to_slice.new.output = c.in_ok-extend_from_slice.ensures.items in
    let x2 : c.extend_from_slice-2.new.self.items ≡ c.extend_from_slice.new.self.items ++ c.encode_to_slice-2.new.output = c.in_ok-extend_from_slice-2.ensures.items in
    let x3 : c.extend_from_slice-3.new.self.items ≡ c.extend_from_slice-2.new.self.items ++ c.encode_to_slice-3.new.output = c.in_ok-extend_from_slice-3.ensures.items in
    let x4 : c.extend_from_slice-4.new.self.items ≡ c.extend_from_slice-3.new.self.items ++ c.encode_to_slice-4.new.output = c.in_ok-extend_from_slice-4.ensures.items in
    let x5 : c.push.new.self.items ≡ c.extend_from_slice-4.new.self.items ++ 10 ∷ [] = c.in_ok-push.ensures.items in
    key_pushed c.args.line.now.items c.extend_from_slice.new.self.items c.extend_from_slice-2.new.self.items c.extend_from_slice-3.new.self.items c.extend_from_slice-4.new.self.items c.push.new.self.items
    c.encode_to_slice.new.output c.encode_to_slice-2.new.output c.encode_to_slice-3.new.output c.encode_to_slice-4.new.output c.args.key.now a b i r x1 x2 x3 x4 x5
