-- Two statements that are the same.

pub record Same (P Q : Type 0) : Type 0 where
  pub to : P → Q
  pub from : Q → P
