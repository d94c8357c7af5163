-- The request about seals that is read from words is the one that the rules tell.
use Rattle.std.proofs.Common.{◌≡◌, ◌∙◌, ℕ, ap, List, [], ◌∷◌, Option, Some, option_map, option_and_then, sym, subst, codes}
use Rattle.std.specs.Prelude.{◌↔◌}
use Rattle.clap.specs.Words.{Row, Text, first_of}
use Rattle.lm_ots.specs.declared.ots_type.OtsType.{OtsType}
use Rattle.lms_tree.specs.declared.lms_type.LmsType.{LmsType}
use Rattle.text_words.specs.Hexadecimal.{block_of_hex}
use Rattle.command_words.specs.Requests.{directory_app, width_of}
use Rattle.command_words.specs.SealRequests.{AsksSeal, SealText, for_hsskey, for_seal, for_unseal, hex_bytes, hsskey, hsskey_app, level_height_of, seal, unseal, unseal_app}
use Rattle.command_words.specs.SealCommands.{hsskey_asked, hsskey_of, seal_request_named, seal_request_of, unseal_asked, unseal_of, unseal_with}
use Rattle.command_words.specs.Words.{rows_given}
use Rattle.command_words.proofs.Rules.{alone, chained, either, from_one, mapped, named, rows_are, takes}

-- ---- from the rules

abbrev hsskey_from : Option Text → Option LmsType → Option OtsType → Option SealText
hsskey_from directory height width = option_and_then (λ d. option_and_then (λ h. option_map (λ w. hsskey d h w) width) height) directory

pub by_rule : (words : List Text) (request : SealText) → AsksSeal words request → seal_request_of words ≡ Some request
by_rule words request (for_hsskey directory height width h d e f) =
    named seal_request_named (codes "hsskey") hsskey_app words h ∙ ap (option_and_then hsskey_asked) (rows_are (codes "hsskey") hsskey_app words h) ∙ (λ i. hsskey_from (d i) (e i) (f i))
by_rule words request (for_seal directory h g) =
    named seal_request_named (codes "seal") (directory_app (codes "seal")) words h ∙ ap (option_map seal) (alone (codes "seal") words directory h g)
by_rule words request (for_unseal key_word signature_word key signature h k read s decoded) =
    named seal_request_named (codes "unseal") unseal_app words h ∙ ap (option_and_then unseal_asked) (rows_are (codes "unseal") unseal_app words h)
    ∙ (λ i. option_and_then (λ a. option_and_then (unseal_with a) (s i)) (k i))
    ∙ (λ i. option_and_then (λ x. option_map (unseal x) (decoded i)) (read i))

-- ---- to the rules

from_hsskey : (words rest : List Text) (request : SealText) → words ≡ codes "hsskey" ∷ rest → hsskey_of words ≡ Some request → AsksSeal words request
from_hsskey words rest request n e =
    let k = chained hsskey_asked (rows_given hsskey_app words) request e in
    let t = takes (codes "hsskey") hsskey_app words rest k.0 n k.1 in
    let height : Text → Option SealText = λ d. option_and_then (λ h. option_map (λ w. hsskey d h w) (width_of (first_of (codes "width") k.0))) (level_height_of (first_of (codes "height") k.0)) in
    let d = chained height (first_of (codes "DIR") k.0) request k.2 in
    let width : LmsType → Option SealText = λ h. option_map (λ w. hsskey d.0 h w) (width_of (first_of (codes "width") k.0)) in
    let h = chained width (level_height_of (first_of (codes "height") k.0)) request d.2 in
    let w = mapped (λ (w : OtsType). hsskey d.0 h.0 w) (width_of (first_of (codes "width") k.0)) request h.2 in
    let of = sym t.1 in
    subst (λ (r : SealText). AsksSeal words r) w.2
    (for_hsskey d.0 h.0 w.0 t.0 (ap (first_of (codes "DIR")) of ∙ d.1) (ap (λ (rows : List Row). level_height_of (first_of (codes "height") rows)) of ∙ h.1)
    (ap (λ (rows : List Row). width_of (first_of (codes "width") rows)) of ∙ w.1))

from_unseal : (words rest : List Text) (request : SealText) → words ≡ codes "unseal" ∷ rest → unseal_of words ≡ Some request → AsksSeal words request
from_unseal words rest request n e =
    let rows = chained unseal_asked (rows_given unseal_app words) request e in
    let t = takes (codes "unseal") unseal_app words rest rows.0 n rows.1 in
    let of = sym t.1 in
    let a = chained (λ (key : Text). option_and_then (unseal_with key) (first_of (codes "SIG") rows.0)) (first_of (codes "KEY") rows.0) request rows.2 in
    let b = chained (unseal_with a.0) (first_of (codes "SIG") rows.0) request a.2 in
    let k = chained (λ (key : List ℕ). option_map (unseal key) (hex_bytes b.0)) (block_of_hex 60 a.0) request b.2 in
    let s = mapped (unseal k.0) (hex_bytes b.0) request k.2 in
    subst (λ (r : SealText). AsksSeal words r) s.2
    (for_unseal a.0 b.0 k.0 s.0 t.0 (ap (first_of (codes "KEY")) of ∙ a.1) k.1 (ap (first_of (codes "SIG")) of ∙ b.1) s.1)

pub to_rule : (words : List Text) (request : SealText) → seal_request_of words ≡ Some request → AsksSeal words request
to_rule [] request e = absurd (cc)
to_rule (first ∷ rest) request e =
    let words : List Text = first ∷ rest in
    either first (codes "hsskey") rest request _ _ (λ n. from_hsskey words rest request n)
    (either first (codes "seal") rest request _ _ (λ n. from_one (λ (r : SealText). AsksSeal words r) (codes "seal") seal words rest request n for_seal)
    (either first (codes "unseal") rest request _ _ (λ n. from_unseal words rest request n) (λ e. absurd (cc)))) e

pub are_by_rule : (words : List Text) (request : SealText) → AsksSeal words request ↔ (seal_request_of words ≡ Some request)
are_by_rule words request = (by_rule words request, to_rule words request)

pub one_only : (words : List Text) (request other : SealText) → AsksSeal words request → AsksSeal words other → request ≡ other
one_only words request other h k = let a = by_rule words request h in let b = by_rule words other k in cc
