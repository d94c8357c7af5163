use Rattle.std.proofs.Common.{◌≡◌, ◌+◌, ◌≤◌, ◌∷◌, [], ◌++◌, All, length, sym, ap, subst, ◌∙◌, arith, length-append, rules}
use Rattle.std.proofs.lemmas.List.Elements.{All-nil}
use Rattle.byzantine_world.specs.Begun.{IsNewOf}
use Rattle.byzantine_world.proofs.Drawn.{drawn_first, drawn_more, keys_more, keys_none}
use Rattle.byzantine_world.proofs.Started.{new_more}
use Rattle.world_rules.specs.Drawn.{HaveDrawnKeys}
use Rattle.byzantine_world.proofs.beginning.sites_of.Goals as goal

pub sites-init : goal.sites-init
sites-init c =
    let none = c.in_ok-sites.ensures.items in
    record {
      new = subst (All (IsNewOf c.args.text.now c.args.count)) (sym none) (All-nil (IsNewOf c.args.text.now c.args.count));
      many = ap length none;
      room = first_of (search rules, omega arith);
      keys = keys_none c.args.types c.args.words.now c.in_ok-sites.sites.items none;
      drawn = drawn_first c.args.words.now;
    }

pub sites-preserved : goal.sites-preserved
sites-preserved c =
    let sites = c.sites.sites.items in
    let site = c.in_ok-site.site in
    let made = c.in_ok-site.ensures in
    let items : c.push_reserved.new.self.items ≡ sites ++ site ∷ [] = c.push_reserved.ensures.items in
    record {
      new = subst (All (IsNewOf c.args.text.now c.args.count)) (sym items) (new_more c.args.text.now c.args.count sites site c.sites.invariant.new made.new made.text made.count);
      many = ap length items ∙ length-append sites (site ∷ []) ∙ ap (λ n. n + 1) c.sites.invariant.many;
      room = subst (λ n. c.args.count ≤ n) (sym c.push_reserved.ensures.capacity) c.sites.invariant.room;
      keys = subst (HaveDrawnKeys c.args.types c.args.words.now) (sym items)
          (keys_more c.args.types c.args.words.now c.sites.replica c.sites.words sites site c.sites.invariant.many c.sites.invariant.keys c.sites.invariant.drawn made.key);
      drawn = drawn_more c.args.words.now c.sites.replica c.sites.words c.create.new.words c.sites.invariant.drawn made.drawn;
    }
