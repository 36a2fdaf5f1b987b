-- Where a walk over declarations stands before and behind one of them.
use Rattle.std.specs.Prelude.{ℕ, List, [], ◌∷◌, ◌++◌, ◌+◌, ◌<◌, ◌≡◌, get_or, length, map, take, drop}
use Rattle.std.proofs.Common.{ap, sym, ◌∙◌}
use Rattle.std.proofs.lemmas.List.{drop_more, take_more, map-append}
use Rattle.kt_tree.specs.declared.declarations.Declaration.{Declaration}
use Rattle.kt_tree.specs.Declarations.{declaration_tree}

pub ahead : (ds : List Declaration) (i : ℕ) (d : Declaration) → i < length ds → d ≡ get_or ds i d → map declaration_tree (drop i ds) ≡ declaration_tree d ∷ map declaration_tree (drop (i + 1) ds)
ahead ds i d less is = ap (map declaration_tree) (drop_more ds i d less ∙ ap (λ x. x ∷ drop (i + 1) ds) (sym is))

pub passed : (ds : List Declaration) (i : ℕ) (d : Declaration) → i < length ds → d ≡ get_or ds i d → map declaration_tree (take i ds) ++ declaration_tree d ∷ [] ≡ map declaration_tree (take (i + 1) ds)
passed ds i d less is =
    sym (ap (map declaration_tree) (take_more ds i d less ∙ ap (λ x. take i ds ++ x ∷ []) (sym is))
    ∙ map-append declaration_tree (take i ds) (d ∷ []))
