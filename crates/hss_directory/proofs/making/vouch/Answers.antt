use Rattle.std.proofs.Common.{◌≡◌, ◌∙◌, ◌++◌, ◌<◌, ◌^◌, ℕ, List, inl, inr, refl, sym, ap, subst, arith, length, length-append}
use Rattle.std.proofs.lemmas.Result.{err_from_is_err_and}
use Rattle.lms_tree.specs.SecretKey.{public_key}
use Rattle.hss_chain.specs.Keys.{key_bytes}
use Rattle.hss_directory.specs.Lower.{unsigned, unwritten}
use Rattle.hss_directory.specs.Peers.{HasPeers, WritesPeers}
use Rattle.hss_directory.specs.Signing.{SignsBy}
use Rattle.hss_directory.proofs.Sign.{short_signature}
use Rattle.hss_directory.proofs.making.vouch.Goals as goal

pub returns-in_err-bytes-clause-refused : goal.returns-in_err-bytes-clause-refused
returns-in_err-bytes-clause-refused g c =
    let p = err_from_is_err_and c.from_residual.result c.from_residual.ensures.1 in
    rw (p.1, p.2) (unsigned (refl, refl) refl)

pub signature_of-requires : goal.signature_of-requires
signature_of-requires g c = c.requires.has_left

pub returns-in_err-sig-clause-refused : goal.returns-in_err-sig-clause-refused
returns-in_err-sig-clause-refused g c =
    let p = err_from_is_err_and c.from_residual-in_err-sig.result c.from_residual-in_err-sig.ensures.1 in
    rw (p.1, p.2) (unsigned c.in_err-sig.ensures.signs refl)

pub returns-in_err-payload-clause-refused : goal.returns-in_err-payload-clause-refused
returns-in_err-payload-clause-refused g c =
    let p = err_from_is_err_and c.from_residual-in_err-payload.result c.from_residual-in_err-payload.ensures.1 in
    let msg_is : c.as_slice.result.now ≡ key_bytes c.args.low.now = c.as_slice.ensures.value ∙ c.in_ok-bytes.ensures in
    let signs = subst (λ (m : List ℕ). SignsBy c.args.top.now (g.R.Rng.stream c.args.random.now) m c.in_ok-sig.sig.items c.signature_of.new.key (g.R.Rng.stream c.signature_of.new.random)) msg_is c.in_ok-sig.ensures.signs in
    rw (p.1, p.2) (unwritten c.in_ok-sig.sig.items signs (inr refl) (inl refl))

pub write_peers-requires-clause-in_place : goal.write_peers-requires-clause-in_place
write_peers-requires-clause-in_place g c = c.requires.peers_in

pub write_peers-requires-clause-fits : goal.write_peers-requires-clause-fits
write_peers-requires-clause-fits g c =
    let sig : List ℕ = c.in_ok-sig.sig.items in
    let whole : c.as_slice-4.result.now ≡ sig ++ key_bytes c.args.low.now =
    c.as_slice-4.ensures.value ∙ c.in_ok-payload.ensures ∙ ap (λ (x : List ℕ). x ++ c.as_slice-3.result.now) c.as_slice-2.ensures.value ∙ ap (λ (x : List ℕ). sig ++ x) (c.as_slice-3.ensures.value ∙ c.in_ok-bytes.ensures) in
    let n = c.signed_has_length.ensures.length (public_key c.args.top.now.secret) c.as_slice.result.now sig c.in_ok-sig.ensures.signs.signed in
    omega (arith, ap length whole, length-append sig (key_bytes c.args.low.now), n, short_signature (public_key c.args.top.now.secret), c.key_has_length.ensures)

pub returns-in_err-write_peers-clause-refused : goal.returns-in_err-write_peers-clause-refused
returns-in_err-write_peers-clause-refused g c =
    let p = err_from_is_err_and c.from_residual-in_err-write_peers.result c.from_residual-in_err-write_peers.ensures.1 in
    let sig : List ℕ = c.in_ok-sig.sig.items in
    let whole : c.as_slice-4.result.now ≡ sig ++ key_bytes c.args.low.now =
    c.as_slice-4.ensures.value ∙ c.in_ok-payload.ensures ∙ ap (λ (x : List ℕ). x ++ c.as_slice-3.result.now) c.as_slice-2.ensures.value ∙ ap (λ (x : List ℕ). sig ++ x) (c.as_slice-3.ensures.value ∙ c.in_ok-bytes.ensures) in
    let msg_is : c.as_slice.result.now ≡ key_bytes c.args.low.now = c.as_slice.ensures.value ∙ c.in_ok-bytes.ensures in
    let signs = subst (λ (m : List ℕ). SignsBy c.args.top.now (g.R.Rng.stream c.args.random.now) m sig c.signature_of.new.key (g.R.Rng.stream c.signature_of.new.random)) msg_is c.in_ok-sig.ensures.signs in
    let writes = subst (λ (x : List ℕ). WritesPeers x (g.H.Shelf.state c.args.shelf.now) c.args.dir.now (g.H.Shelf.state c.write_peers.new.shelf)) whole c.in_err-write_peers.ensures.writes in
    rw (p.1, p.2) (unwritten sig signs (inl refl) (inr writes))

pub returns-clause-vouches : goal.returns-clause-vouches
returns-clause-vouches g c =
    let sig : List ℕ = c.in_ok-sig.sig.items in
    let whole : c.as_slice-4.result.now ≡ sig ++ key_bytes c.args.low.now =
    c.as_slice-4.ensures.value ∙ c.in_ok-payload.ensures ∙ ap (λ (x : List ℕ). x ++ c.as_slice-3.result.now) c.as_slice-2.ensures.value ∙ ap (λ (x : List ℕ). sig ++ x) (c.as_slice-3.ensures.value ∙ c.in_ok-bytes.ensures) in
    let msg_is : c.as_slice.result.now ≡ key_bytes c.args.low.now = c.as_slice.ensures.value ∙ c.in_ok-bytes.ensures in
    let signs = subst (λ (m : List ℕ). SignsBy c.args.top.now (g.R.Rng.stream c.args.random.now) m sig c.signature_of.new.key (g.R.Rng.stream c.signature_of.new.random)) msg_is c.in_ok-sig.ensures.signs in
    record {
      signs = signs;
      writes = subst (λ (x : List ℕ). WritesPeers x (g.H.Shelf.state c.args.shelf.now) c.args.dir.now (g.H.Shelf.state c.write_peers.new.shelf)) whole c.in_ok-write_peers.ensures.writes;
      has = λ tells. subst (λ (x : List ℕ). HasPeers x (g.H.Shelf.state c.write_peers.new.shelf) c.args.dir.now) whole (c.in_ok-write_peers.ensures.written tells);
    }
