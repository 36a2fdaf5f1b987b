-- What declaring a file answers.
use Rattle.std.specs.Prelude.{List, ◌≡◌}
use Rattle.kt_base.specs.declared.refusals.FrontErr.{FrontErr}
use Rattle.kt_base.specs.declared.refusals.FrontErr.TheVariants as why
use Rattle.kt_base.specs.declared.refusals.Kind.TheVariants.{Typing}
use Rattle.kt_tree.specs.Declarations.{DeclarationTree}
use Rattle.kt_decls_rules.specs.Headers.{AreRefusedAt}

-- an answer that is no result: the place of the first header that isn't well formed, or want of memory
abbrev pub IsRefusal : List DeclarationTree → FrontErr → Type 0
IsRefusal ds (why.Refused r) = AreRefusedAt ds r.pos × (r.kind ≡ Typing)
IsRefusal ds why.NoMemory = Unit {0}
