-- Which rows may be extended, and how.
use Rattle.std.specs.Prelude.{ℕ, Bool, true, false, List, [], ◌∷◌, ◌++◌, Option, Some, None, map, slice_get}
use Rattle.kt_tree.specs.Declarations.{DeclarationTree}
use Rattle.kt_types_tree.specs.Hierarchy.{SuperForm}
use Rattle.kt_types_builtins.specs.declared.throwables.BuiltInThrowable.{BuiltInThrowable}
use Rattle.kt_types_builtins.specs.Throwables.{throwables}
use Rattle.kt_decls_rules.specs.Tables.{has_row}
use Rattle.kt_decls_rules.specs.ClassRules.{SuperKind, open_class, an_interface, neither, kind_of_declaration}
use Rattle.kt_decls_classes.specs.declared.kinds.Extension.{Extension}
use Rattle.kt_decls_classes.specs.declared.kinds.Extension.TheVariants as extension

abbrev pub kind_seen : Extension → SuperKind
kind_seen extension.OpenClass = open_class
kind_seen extension.Interface = an_interface
kind_seen extension.Neither = neither

abbrev pub kind_if : Bool → SuperKind → List SuperKind
kind_if false k = []
kind_if true k = k ∷ []

abbrev pub kinds_from : List DeclarationTree → List SuperKind
kinds_from [] = []
kinds_from (d ∷ ds) = kind_if (has_row d) (kind_of_declaration d) ++ kinds_from ds

unfoldable pub always_open : BuiltInThrowable → SuperKind
always_open t = open_class

-- first the throwables, then the file's classes
abbrev pub all_kinds : List DeclarationTree → List SuperKind
all_kinds ds = map always_open throwables ++ kinds_from ds

abbrev pub or_neither : Option SuperKind → SuperKind
or_neither None = neither
or_neither (Some k) = k

-- the kinds of a file's rows are known
abbrev pub kind_at : List Extension → ℕ → SuperKind
kind_at ks row = or_neither (slice_get (map kind_seen ks) row)

-- what a supertype that was found may be extended as
abbrev pub named_kind : List Extension → Option SuperForm → SuperKind
named_kind ks None = neither
named_kind ks (Some s) = kind_at ks s.class
