-- What a hierarchy is, and what a cycle in it tells.
use Rattle.std.proofs.Common.{◌≡◌, ℕ, List, Some, length, map, sym, ap, subst, ◌∙◌}
use Rattle.std.specs.Prelude.{slice_get}
use Rattle.std.proofs.lemmas.List.{length-map}
use Rattle.class_headers.specs.declared.headers.Header.{Header}
use Rattle.class_supers.specs.Graph.{AreAllSupers, IsFirstOnCycle}
use Rattle.class_members.specs.declared.hierarchy.Hierarchy.{Hierarchy}
use Rattle.class_members.specs.Above.{IsHierarchy, links_of}
use Rattle.class_link.specs.declared.errors.LinkErr.{LinkErr}
use Rattle.class_link.specs.declared.errors.LinkErr.TheVariants.{Missing, Cycle, NoMain, NoMemory}
use Rattle.class_link.specs.Linking.{FailsCycle, IsCycle, name_of}

pub supers_here : (hs : List Header) (h : Hierarchy) → IsHierarchy hs h → AreAllSupers h.links h.supers
supers_here hs h p = subst (λ g. AreAllSupers g h.supers) (sym p.links) p.supers

pub links_long : (hs : List Header) (h : Hierarchy) → IsHierarchy hs h → length h.links ≡ length h.headers
links_long hs h p = ap length p.links ∙ length-map hs (links_of hs) ∙ sym (ap length p.headers)

pub cycle_fails : (h : Hierarchy) (c : ℕ) (e : LinkErr) → IsFirstOnCycle h.links c
    → IsCycle (name_of (slice_get h.headers c)) e → FailsCycle h e
cycle_fails h c (Cycle n) f i = record { class = c; first = f; named = i }
cycle_fails h c NoMemory f i = tt
cycle_fails h c (Missing n) f i = i
cycle_fails h c NoMain f i = i
