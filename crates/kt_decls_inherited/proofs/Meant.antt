-- Types that have a meaning, one behind the other.
use Rattle.std.specs.Prelude.{List, [], ◌∷◌, ◌++◌, ◌≡◌, Option, Some, None, map, refl}
use Rattle.std.proofs.Common.{ap, sym, ◌∙◌, append_assoc}
use Rattle.kt_types_tree.specs.declared.types.KtType.{KtType}
use Rattle.kt_types_tree.specs.Types.{TypeForm, TypeForms, substituted, type_form}
use Rattle.kt_decls_inherited.specs.declared.sights.FunctionTypes.{FunctionTypes}
use Rattle.kt_decls_inherited.specs.Sights.{signature_with, types_form}
use Rattle.kt_decls_types.specs.References.{then_on}

abbrev pub behind : List TypeForm → Option (List TypeForm) → Option (List TypeForm)
behind done o = then_on o (λ us. Some (done ++ us))

pub one_more : (done : List TypeForm) (u : TypeForm) (rest : Option (List TypeForm)) → behind done (then_on rest (λ us. Some (u ∷ us))) ≡ behind (done ++ u ∷ []) rest
one_more done u None = refl
one_more done u (Some us) = ap Some (sym (append_assoc done (u ∷ []) us))

pub at_first : (o : Option (List TypeForm)) → o ≡ behind [] o
at_first None = refl
at_first (Some us) = refl

mapped_twice : (w : TypeForms) (ts : List KtType) → map (λ t. substituted w (type_form t)) ts ≡ map (substituted w) (map type_form ts)
mapped_twice w [] = refl
mapped_twice w (t ∷ ts) = ap (λ us. substituted w (type_form t) ∷ us) (mapped_twice w ts)

-- the types of a function with arguments in place of the type parameters
pub types_seen : (w : TypeForms) (of : FunctionTypes) (parameters : List KtType) (given : KtType) → map type_form parameters ≡ map (λ t. substituted w (type_form t)) of.parameters → type_form given ≡ substituted w (type_form of.result) → types_form (record { parameters = parameters; result = given }) ≡ signature_with w (types_form of)
types_seen w of parameters given d e = λ i. record { parameters = (d ∙ mapped_twice w of.parameters) i; result = e i }
