use Rattle.std.proofs.Common.{◌≡◌, ◌≤◌, ◌*◌, ◌^◌, [], ap, ◌∙◌, arith}
use Rattle.std.proofs.Math.Nat.{one-le-pow}
use Rattle.std.proofs.lemmas.List.{get_or_read}
use Rattle.lms_tree.specs.LmsKind.{height}
use Rattle.lms_tree.specs.Tree.{root_of}
use Rattle.lms_tree.specs.SecretKey.{SecretData, public_key, value_of_leaf}
use Rattle.lms_tree.proofs.SignatureLaws.{known_types}
use Rattle.lms_tree.proofs.TreeLaws.{tree_holds}
use Rattle.lms_tree.proofs.secret.Secret.public.Goals as goal

pub returns-clause-value : goal.returns-clause-value
returns-clause-value c =
    let secret : SecretData = record { lms = c.self.inside.lms; ots = c.self.inside.ots; ident = c.self.inside.ident; start = c.self.inside.start } in
    let some : 1 ≤ 2 ^ height secret.lms = one-le-pow (height secret.lms) 2 (omega arith) in
    let all : 1 * 2 ^ height secret.lms ≡ 2 ^ height secret.lms = omega arith in
    let root : c.index.result.now ≡ root_of secret.ident (value_of_leaf secret) (height secret.lms) =
    get_or_read c.self.inside.nodes.items 1 c.index.result.now (omega (arith, c.self.invariant.len, some)) c.index.ensures []
    ∙ tree_holds secret.ident (value_of_leaf secret) (height secret.lms) c.self.inside.nodes.items c.self.invariant (height secret.lms) 1 1 all (omega arith) (omega arith) in
    rw (c.type_word.ensures, c.type_word-2.ensures, root) (ap public_key c.self.view_is)

pub returns-clause-known : goal.returns-clause-known
returns-clause-known c = known_types _ c.self.inside.lms c.self.inside.ots (record { tree = c.type_word.ensures; one_time = c.type_word-2.ensures })
