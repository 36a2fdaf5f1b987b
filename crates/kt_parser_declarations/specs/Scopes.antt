-- Where a function stands, as the grammar names it.
use Rattle.kt_grammar.specs.Declarations as grammar
use Rattle.kt_grammar.specs.Declarations.{at_top, in_class, in_interface}
use Rattle.kt_parser_declarations.specs.declared.functions.Scope.{Scope}
use Rattle.kt_parser_declarations.specs.declared.functions.Scope.TheVariants as scope

abbrev pub scope_of : Scope → grammar.Scope
scope_of scope.AtTop = at_top
scope_of scope.InClass = in_class
scope_of scope.InInterface = in_interface
