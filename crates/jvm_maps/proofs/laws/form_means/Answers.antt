use Rattle.jvm_maps.proofs.FormLaws.{form_means}
use Rattle.jvm_maps.proofs.laws.form_means.Goals as goal

pub returns : goal.returns
returns c = form_means
