-- The headers of a file in text order, when all are well formed, and which is the first that isn't.
use Rattle.std.specs.Prelude.{ℕ, List, [], ◌∷◌, ◌++◌, ◌<◌, ◌≡◌, Some, map, slice_get}
use Rattle.std.specs.List.{flat_map}
use Rattle.kt_base.specs.declared.refusals.Pos.{Pos}
use Rattle.kt_tree.specs.declared.declarations.EnumEntry.{EnumEntry}
use Rattle.kt_tree.specs.Declarations.{DeclarationTree, function, class, interface, enum, constant, MemberTree, method, property}
use Rattle.kt_decls_rules.specs.Names.{Taken, taken_by_member, taken_by_parameter}
use Rattle.kt_decls_rules.specs.Tables.{scope_of}
use Rattle.kt_decls_rules.specs.Rules.{IsFineDeclaration, IsFineFunction, IsFineConstant}
use Rattle.kt_decls_rules.specs.ClassRules.{IsFineClass, IsFineInterface, IsFineMethod, IsFineProperty, IsFineEntry, row_behind}

-- A header: a declaration behind those before it, or a member of one behind the members before it.
pub data Header : Type 0 where
  top : List DeclarationTree → DeclarationTree → Header
  member : List DeclarationTree → DeclarationTree → List Taken → MemberTree → Header
  entry : List EnumEntry → EnumEntry → Header

abbrev pub members_from : List DeclarationTree → DeclarationTree → List Taken → List MemberTree → List Header
members_from before d earlier [] = []
members_from before d earlier (m ∷ ms) =
    member before d earlier m ∷ members_from before d (earlier ++ taken_by_member m ∷ []) ms

abbrev pub entries_from : List EnumEntry → List EnumEntry → List Header
entries_from earlier [] = []
entries_from earlier (e ∷ es) = entry earlier e ∷ entries_from (earlier ++ e ∷ []) es

-- the members of a declaration; the properties of a constructor stand before those of the body
abbrev pub headers_of_members : List DeclarationTree → DeclarationTree → List Header
headers_of_members before (function f) = []
headers_of_members before (class c) =
    members_from before (class c) (flat_map taken_by_parameter c.parameters) c.members
headers_of_members before (interface i) = members_from before (interface i) [] (map method i.functions)
headers_of_members before (enum e) = entries_from [] e.entries
headers_of_members before (constant c) = []

abbrev pub headers_from : List DeclarationTree → List DeclarationTree → List Header
headers_from before [] = []
headers_from before (d ∷ ds) =
    top before d ∷ (headers_of_members before d ++ headers_from (before ++ d ∷ []) ds)

-- all headers of a file in text order
abbrev pub headers : List DeclarationTree → List Header
headers = headers_from []

-- the place of the first token

abbrev pub declaration_place : DeclarationTree → Pos
declaration_place (function f) = f.at
declaration_place (class c) = c.at
declaration_place (interface i) = i.at
declaration_place (enum e) = e.at
declaration_place (constant c) = c.at

abbrev pub member_place : MemberTree → Pos
member_place (method f) = f.at
member_place (property p) = p.at

abbrev pub place : Header → Pos
place (top before d) = declaration_place d
place (member before d earlier m) = member_place m
place (entry earlier e) = e.at

-- what a kind of declaration obeys beside what all do
abbrev pub IsFineKind : List DeclarationTree → List DeclarationTree → DeclarationTree → Type 0
IsFineKind ds before (function f) = IsFineFunction ds (scope_of before (function f)) f
IsFineKind ds before (class c) = IsFineClass ds (row_behind before) (scope_of before (class c)) c
IsFineKind ds before (interface i) = IsFineInterface ds (row_behind before) (scope_of before (interface i)) i
IsFineKind ds before (enum e) = Unit {0}
IsFineKind ds before (constant c) = IsFineConstant ds c

abbrev pub IsFineMember :
    List DeclarationTree → List DeclarationTree → DeclarationTree → List Taken → MemberTree → Type 0
IsFineMember ds before d earlier (method f) = IsFineMethod ds (row_behind before) (scope_of before d) earlier f
IsFineMember ds before d earlier (property p) = IsFineProperty ds (row_behind before) (scope_of before d) earlier p

-- a header of a file is well formed
abbrev pub IsFine : List DeclarationTree → Header → Type 0
IsFine ds (top before d) = IsFineDeclaration ds before d × IsFineKind ds before d
IsFine ds (member before d earlier m) = IsFineMember ds before d earlier m
IsFine ds (entry earlier e) = IsFineEntry earlier e

abbrev pub AreAllFine : List DeclarationTree → List Header → Type 0
AreAllFine ds hs = (n : ℕ) (h : Header) → slice_get hs n ≡ Some h → IsFine ds h

-- The headers of a file are well formed.
abbrev pub AreWellFormed : List DeclarationTree → Type 0
AreWellFormed ds = AreAllFine ds (headers ds)

-- The first header that isn't well formed stands at a place.
pub record AreRefusedAt (ds : List DeclarationTree) (p : Pos) : Type 0 where
  pub number : ℕ
  pub header : Header
  pub stands : slice_get (headers ds) number ≡ Some header
  pub fails : IsFine ds header → ⊥
  pub before : (n : ℕ) (h : Header) → n < number → slice_get (headers ds) n ≡ Some h → IsFine ds h
  pub at : place header ≡ p

-- A file's headers are well formed or refused at one place, and not both.
pub record AreJudgedOnce (ds : List DeclarationTree) : Type 0 where
  pub not_both : (p : Pos) → AreWellFormed ds → AreRefusedAt ds p → ⊥
  pub one_place : (p q : Pos) → AreRefusedAt ds p → AreRefusedAt ds q → p ≡ q
  pub not_neither : (AreWellFormed ds → ⊥) → ((p : Pos) → AreRefusedAt ds p → ⊥) → ⊥

abbrev pub IsJudgedOnce : Type 0
IsJudgedOnce = (ds : List DeclarationTree) → AreJudgedOnce ds
