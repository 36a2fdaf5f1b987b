-- What is answered of classes: whether they are closed, and keep every rule of verification.
use Rattle.std.specs.Prelude.{◌≡◌, ℕ, List}
use Rattle.jvm_class_types.specs.declared.classes.ClassFile.{ClassFile}
use Rattle.class_linked.specs.declared.classes.Linked.{Linked}
use Rattle.class_link.specs.Linking as linking
use Rattle.class_link.specs.Linking.{AreLinked}
use Rattle.class_link.specs.declared.errors.LinkErr.{LinkErr}
use Rattle.class_link.specs.declared.errors.LinkErr.TheVariants as link_error
use Rattle.class_verify.specs.Refusals.{Refuses}
use Rattle.class_verify.specs.declared.errors.VerifyError.TheVariants as verify_error
use Rattle.class_verify_rules.specs.Verified.{IsVerified}
use Rattle.class_answers.specs.declared.answers.Answer.{Answer}
use Rattle.class_answers.specs.declared.answers.Answer.TheVariants as answer

-- what is answered of classes that are linked
abbrev pub AnswersVerify : Linked → Answer → Type 0
AnswersVerify linked answer.Fine = IsVerified linked
AnswersVerify linked (answer.Rejected class method at) = Refuses linked (verify_error.Rejected class method at)
AnswersVerify linked answer.NoMemory = Unit {0}
AnswersVerify linked _ = ⊥

-- what is answered where linking ends with this error
abbrev pub AnswersLink : LinkErr → Answer → Type 0
AnswersLink (link_error.Missing name) a = a ≡ answer.Missing name
AnswersLink (link_error.Cycle name) a = a ≡ answer.Cyclic name
AnswersLink link_error.NoMain a = a ≡ answer.NoMain
AnswersLink link_error.NoMemory a = a ≡ answer.NoMemory

-- Classes are fine exactly where they are closed and each rule of verification holds; else they are refused where
-- linking or verification refuses them.
abbrev pub Judges : List ClassFile → Answer → Type 0
Judges classes answer.Fine = (linked : Linked) × AreLinked classes linked × IsVerified linked
Judges classes (answer.Rejected class method at) =
    (linked : Linked) × AreLinked classes linked × Refuses linked (verify_error.Rejected class method at)
Judges classes (answer.Missing class) = linking.WhyNot classes (link_error.Missing class)
Judges classes (answer.Cyclic class) = linking.WhyNot classes (link_error.Cycle class)
Judges classes answer.NoMain = linking.WhyNot classes link_error.NoMain
Judges classes answer.NoMemory = Unit {0}
Judges classes _ = ⊥
