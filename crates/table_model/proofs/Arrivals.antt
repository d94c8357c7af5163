-- A list that is closed in the order of arrival is closed newest first.
use Rattle.std.proofs.Common.{◌≡◌, Bool, true, ◌||◌, List, [], ◌∷◌, ◌++◌, reverse, refl, sym, ap, ap₂, ◌∙◌, subst, append_assoc, append-nil, All}
use Rattle.std.specs.List.{list_all}
use Rattle.std.proofs.lemmas.List.{reverse-append}
use Rattle.std.proofs.lemmas.List.Elements.{All-head, All-tail}
use Rattle.std.proofs.lemmas.Bool.{and_from}
use Rattle.update_model.specs.declared.update_id.UpdateId.{UpdateId}
use Rattle.update_model.specs.Entry.{Entry, same_id}
use Rattle.update_model.specs.Graph.{holds as graph_holds, Follows}
use Rattle.update_model.specs.Node.{NodeData}
use Rattle.table_model.specs.Nodes.{holds, IsClosed, AreNodesOf}
use Rattle.table_model.proofs.Alike.{Alike, Alike-refl, Alike-same, Alike-trans, Alike-cons, Alike-middle, same_any}

last_first : (xs : List NodeData) (x : NodeData) → reverse (xs ++ x ∷ []) ≡ x ∷ reverse xs
last_first xs x = reverse-append xs (x ∷ [])

reversed_alike : (xs : List NodeData) → Alike (reverse xs) xs
reversed_alike [] = Alike-refl []
reversed_alike (x ∷ xs) =
    Alike-trans (Alike-same (reverse-append (x ∷ []) xs)) (Alike-trans (Alike-middle (reverse xs) [] x) (Alike-cons x (Alike-trans (Alike-same (append-nil (reverse xs))) (reversed_alike xs))))

-- nodes hold what the members hold whose nodes they are
nodes_hold : (graph : List Entry) (nodes : List NodeData) → AreNodesOf graph nodes → (id : UpdateId) → holds nodes id ≡ graph_holds graph id
nodes_hold [] [] a id = refl
nodes_hold [] (n ∷ ns) a id = absurd a
nodes_hold (e ∷ es) [] a id = absurd a
nodes_hold (e ∷ es) (n ∷ ns) a id = ap₂ (λ x y. same_id id x || y) (sym a.0) (nodes_hold es ns a.2 id)

nodes_more : (graph : List Entry) (nodes : List NodeData) (e : Entry) (n : NodeData) → AreNodesOf graph nodes → e.id ≡ n.id → e.preds ≡ n.preds → AreNodesOf (graph ++ e ∷ []) (nodes ++ n ∷ [])
nodes_more [] [] e n a i p = (i, p, tt)
nodes_more [] (m ∷ ns) e n a i p = absurd a
nodes_more (d ∷ es) [] e n a i p = absurd a
nodes_more (d ∷ es) (m ∷ ns) e n a i p = (a.0, a.1, nodes_more es ns e n a.2 i p)

-- what holds of each id, as a test
all_test : (p : UpdateId → Bool) (ids : List UpdateId) → All (λ id. p id ≡ true) ids → list_all p ids ≡ true
all_test p [] h = refl
all_test p (id ∷ ids) h = and_from _ _ (All-head (λ x. p x ≡ true) id ids h) (all_test p ids (All-tail (λ x. p x ≡ true) id ids h))

-- tests that agree
each_test : (p q : UpdateId → Bool) (ids : List UpdateId) → ((id : UpdateId) → p id ≡ q id) → list_all p ids ≡ list_all q ids
each_test p q ids h = λ i. list_all (λ id. h id i) ids

pub closed_reversed : (old : List Entry) (before : List NodeData) → AreNodesOf old before → (new : List Entry) (nodes : List NodeData) → AreNodesOf new nodes
    → IsClosed (reverse before) → Follows old new → IsClosed (reverse (before ++ nodes))
closed_reversed old before a [] [] b c f = subst (λ (l : List NodeData). IsClosed (reverse l)) (sym (append-nil before)) c
closed_reversed old before a [] (n ∷ ns) b c f = absurd b
closed_reversed old before a (e ∷ es) [] b c f = absurd b
closed_reversed old before a (e ∷ es) (n ∷ ns) b c f =
    let same : (id : UpdateId) → holds (reverse before) id ≡ graph_holds old id = λ id. same_any (λ m. same_id id m.id) (reversed_alike before) ∙ nodes_hold old before a id in
    let next : IsClosed (n ∷ reverse before) = (
      record {
        new = same n.id ∙ ap (graph_holds old) (sym b.0) ∙ f.0.new;
        preds = each_test (holds (reverse before)) (graph_holds old) n.preds same ∙ ap (list_all (graph_holds old)) (sym b.1) ∙ all_test (graph_holds old) e.preds f.0.preds;
      },
      c,
    ) in
    subst (λ (l : List NodeData). IsClosed (reverse l)) (append_assoc before (n ∷ []) ns)
    (closed_reversed (old ++ e ∷ []) (before ++ n ∷ []) (nodes_more old before e n a b.0 b.1) es ns b.2 (subst IsClosed (sym (last_first before n)) next) f.1)
