-- What is made of the facts of a file is what its declarations say.
use Rattle.std.specs.Prelude.{ℕ, List, ◌++◌, ◌≡◌, length, map}
use Rattle.std.proofs.Common.{◌∙◌}
use Rattle.kt_tree.specs.Declarations.{DeclarationTree}
use Rattle.kt_types_tree.specs.Hierarchy.{HierarchyForm, hierarchy_form}
use Rattle.kt_types_builtins.specs.Throwables.{throwables}
use Rattle.kt_typed.specs.declared.headers.DeclarationNumber.{DeclarationNumber}
use Rattle.kt_typed.specs.Headers.{ClassForm, ConstantForm, FunctionForm, HeadersForm}
use Rattle.kt_decls_types.specs.Scopes.{class_named}
use Rattle.kt_decls_table.specs.Classes.{Classes}
use Rattle.kt_decls_facts.specs.declared.facts.FileFacts.{FileFacts}
use Rattle.kt_decls_facts.specs.Facts.{Knows}
use Rattle.kt_decls_inherited.specs.Sights.{places}
use Rattle.kt_decls_headers.specs.Classes.{throwable_in}
use Rattle.kt_decls_headers.specs.Files.{classes_from, constants_of, functions_from, headers_in, headers_of, order_from}

abbrev parts : HierarchyForm → List ClassForm → List FunctionForm → List ConstantForm → List DeclarationNumber → HeadersForm
parts h cs fs ks ns = record { hierarchy = h; classes = cs; functions = fs; constants = ks; order = ns }

pub whole :
    (ds : List DeclarationTree) (f : FileFacts) → Knows ds f → (ps : List ℕ) → ps ≡ places ds →
    (cs : List ClassForm) (fs : List FunctionForm) (ks : List ConstantForm) (ns : List DeclarationNumber) →
    cs ≡ map throwable_in throwables ++ classes_from (class_named f.classes) (hierarchy_form f.hierarchy) ds ps (length throwables) 0 ds →
    fs ≡ functions_from (class_named f.classes) 0 ds →
    ks ≡ constants_of (class_named f.classes) ds →
    ns ≡ order_from 0 (length throwables) 0 ds →
    parts (hierarchy_form f.hierarchy) cs fs ks ns ≡ headers_of ds
whole ds f known ps ends cs fs ks ns c g k o =
    (λ i. parts (hierarchy_form f.hierarchy) (c i) (g i) (k i) (o i))
    ∙ (λ i. headers_in (λ x. known.names x i) (known.tree i) ds (ends i))
