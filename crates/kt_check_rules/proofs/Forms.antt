-- Each form has a typing somewhere: statements of one body, one after the other.
use Rattle.std.proofs.Common.{List, [], ◌∷◌, Some, None, refl, true, false, inl, inr}
use Rattle.std.specs.Prelude.{codes}
use Rattle.kt_tree.specs.declared.bodies.AssignmentOperator.TheVariants as by
use Rattle.kt_tree.specs.declared.bodies.BinaryOperator.TheVariants as o
use Rattle.kt_tree.specs.declared.bodies.Literal.TheVariants as written
use Rattle.kt_tree.specs.declared.bodies.RangeOperator.TheVariants as range
use Rattle.kt_tree.specs.declared.bodies.StepOperator.TheVariants as step_by
use Rattle.kt_tree.specs.Types as type
use Rattle.kt_tree.specs.Bodies.{literal, template, name, binary, member, index, call, if_else, when, expressions_end, expression_then, no_expression, some_expression, parts_end, entry, entries_end, entry_then, equals, of_type, conditions_end, condition_then, braces, single, some_body, block, local, assign, step, for, evaluate, statements_end, statement_then}
use Rattle.kt_types_order.specs.Below.{same, below_any}
use Rattle.kt_types_builtins.specs.Types.{type_of_name, types}
use Rattle.kt_types_builtins.specs.Functions.{function_of_name, functions}
use Rattle.kt_types_builtins.specs.Members.{member_of, members, same_receiver}
use Rattle.kt_typed.specs.Bodies.{StatementForm}
use Rattle.kt_check_rules.specs.Kinds.{unit_type}
use Rattle.kt_check_rules.specs.States.{Context, State}
use Rattle.kt_check_rules.specs.Bodies.{Direct, statement, AreDirects, empty_state}
use Rattle.kt_check_rules.specs.Samples.{at, number, headers_with}

abbrev K : Context
K = record {
  headers = headers_with [];
  classes = λ x. None;
  type_parameters = [];
  result = unit_type;
  is_suspend = false;
}

-- they have a typing
abbrev AreTyped : List Direct → Type 0
AreTyped ds = (ys : List StatementForm) × (end : State) × AreDirects K ds empty_state true ys end

-- `val a = IntArray(3)`, `for (i in 0 until a.size) { a[i] += i` and `a[i]++ }`
abbrev arrays_tree : List Direct
arrays_tree = statement (local (at 0 0) false (codes "a") None (some_expression (call (at 0 0) (name (at 0 0)
    (codes "IntArray")) (at 0 0) [] (expression_then (number 3 false) expressions_end)))) ∷ statement (for (at 0 0)
    (codes "i") (number 0 false) range.Until (member (at 0 0) (name (at 0 0) (codes "a")) false (codes "size"))
    (braces (block (statement_then (assign (at 0 0) (index (at 0 0) (name (at 0 0) (codes "a")) (name (at 0 0)
    (codes "i"))) by.Add (name (at 0 0) (codes "i"))) (statement_then (step (at 0 0) (index (at 0 0)
    (name (at 0 0) (codes "a")) (name (at 0 0) (codes "i"))) step_by.Increment) statements_end)) (at 0 0)))) ∷ []

arrays : AreTyped arrays_tree
unfolding type_of_name types function_of_name functions member_of members same_receiver
arrays = (
  _,
  _,
  record {
    y = _;
    more = _;
    between = _;
    goes_on = _;
    first = record {
      typed = record {
        u = _;
        end = _;
        free = refl;
        value = record {
          typings = _;
          reads = record {
            chosen = _;
            values = _;
            end = _;
            is = refl;
            are = record {
              one = _;
              others = _;
              between = _;
              first = record {
                typings = _;
                reads = (
                  refl,
                  refl,
                );
                takes = inl (same, refl);
              };
              rest = (refl, refl);
              whole = refl;
            };
            gives = (refl, refl);
          };
          takes = refl;
        };
        whole = refl;
        after = refl;
      };
      ends = refl;
    };
    rest = record {
      y = _;
      more = _;
      between = _;
      goes_on = _;
      first = record {
        typed = record {
          firsts = _;
          lasts = _;
          chosen = _;
          b = _;
          between = _;
          begun = _;
          end = _;
          first = (refl, refl);
          last = record {
            receivers = _;
            end = _;
            of_what = (refl, refl);
            gives = (refl, refl);
          };
          bounds = refl;
          done = record {
            statements = _;
            value = _;
            end = _;
            are = record {
              line = _;
              lines = _;
              between = _;
              first = record {
                place = _;
                f = _;
                u = _;
                between = _;
                is = record {
                  arrays = _;
                  indices = _;
                  between = _;
                  array = (refl, refl);
                  index = (refl, refl);
                  first = refl;
                };
                new = record {
                  typings = _;
                  chosen = _;
                  reads = (refl, refl);
                  first = refl;
                  meets = same;
                  value = refl;
                  operator = refl;
                };
                whole = refl;
              };
              rest = record {
                line = _;
                lines = _;
                between = _;
                first = record {
                  place = _;
                  width = _;
                  is = record {
                    arrays = _;
                    indices = _;
                    between = _;
                    array = (
                      refl,
                      refl,
                    );
                    index = (refl, refl);
                    first = refl;
                  };
                  number = refl;
                  whole = refl;
                };
                rest = record {
                  meets = tt;
                  none = refl;
                  no_value = refl;
                  same = refl;
                };
                whole = refl;
              };
              whole = refl;
            };
            whole = refl;
            left = refl;
          };
          whole = refl;
          after = refl;
        };
        ends = refl;
      };
      rest = (refl, refl);
      whole = refl;
    };
    whole = refl;
  },
)

-- `val x: Int`, `if (true) x = 1 else x = 2`, `println(x)`
abbrev both_branches_tree : List Direct
both_branches_tree = statement (local (at 0 0) false (codes "x") (Some (type.named (codes "Int") type.types_end))
    no_expression) ∷ statement (evaluate (at 0 0) (if_else (at 0 0) (literal (at 0 0) written.True)
    (single (assign (at 0 0) (name (at 0 0) (codes "x")) by.Set (number 1 false)))
    (some_body (single (assign (at 0 0) (name (at 0 0) (codes "x")) by.Set (number 2 false))))))
    ∷ statement (evaluate (at 0 0) (call (at 0 0) (name (at 0 0) (codes "println")) (at 0 0)
    [] (expression_then (name (at 0 0) (codes "x")) expressions_end))) ∷ []

both_branches : AreTyped both_branches_tree
unfolding type_of_name types function_of_name functions member_of members same_receiver
both_branches = (
  _,
  _,
  record {
    y = _;
    more = _;
    between = _;
    goes_on = _;
    first = record {
      typed = record { t = _; free = refl; means = refl; whole = refl; after = refl };
      ends = refl;
    };
    rest = record {
      y = _;
      more = _;
      between = _;
      goes_on = _;
      first = record {
        typed = record {
          u = _;
          typed = record {
            typings = _;
            reads = record {
              u = _;
              x = _;
              y = _;
              types = _;
              p = _;
              whole = _;
              tested = _;
              between = _;
              end = _;
              condition = record {
                typings = _;
                reads = (refl, refl);
                takes = inl (same, refl);
              };
              first = record {
                statements = _;
                value = _;
                end = _;
                are = record {
                  line = _;
                  lines = _;
                  between = _;
                  first = record {
                    n = _;
                    l = _;
                    f = _;
                    u = _;
                    end = _;
                    is = record { number = refl; known = refl };
                    old = refl;
                    new = (
                      record {
                        typings = _;
                        reads = (refl, refl);
                        takes = inl (same, refl);
                      },
                      refl,
                    );
                    allowed = refl;
                    whole = refl;
                    after = refl;
                  };
                  rest = record {
                    meets = tt;
                    none = refl;
                    no_value = refl;
                    same = refl;
                  };
                  whole = refl;
                };
                whole = refl;
                left = refl;
              };
              second = record {
                x = _;
                is = record {
                  statements = _;
                  value = _;
                  end = _;
                  are = record {
                    line = _;
                    lines = _;
                    between = _;
                    first = record {
                      n = _;
                      l = _;
                      f = _;
                      u = _;
                      end = _;
                      is = record {
                        number = refl;
                        known = refl;
                      };
                      old = refl;
                      new = (
                        record { typings = _; reads = (refl, refl); takes = inl (same, refl) },
                        refl,
                      );
                      allowed = refl;
                      whole = refl;
                      after = refl;
                    };
                    rest = record {
                      meets = tt;
                      none = refl;
                      no_value = refl;
                      same = refl;
                    };
                    whole = refl;
                  };
                  whole = refl;
                  left = refl;
                };
                whole = refl;
                types = refl;
                ends = refl;
              };
              has = refl;
              gives = (refl, refl);
            };
            takes = refl;
          };
          whole = refl;
        };
        ends = refl;
      };
      rest = record {
        y = _;
        more = _;
        between = _;
        goes_on = _;
        first = record {
          typed = record {
            u = _;
            typed = record {
              typings = _;
              reads = record {
                chosen = _;
                values = _;
                end = _;
                is = refl;
                are = record {
                  one = _;
                  others = _;
                  between = _;
                  first = record {
                    typings = _;
                    reads = (refl, refl);
                    takes = refl;
                  };
                  rest = (refl, refl);
                  whole = refl;
                };
                gives = (refl, refl);
              };
              takes = refl;
            };
            whole = refl;
          };
          ends = refl;
        };
        rest = (refl, refl);
        whole = refl;
      };
      whole = refl;
    };
    whole = refl;
  },
)

-- `val b = true`, `val s: String = when (b) { true -> "t"`, `false -> "f" }`
abbrev both_truths_tree : List Direct
both_truths_tree = statement (local (at 0 0) false (codes "b") None (some_expression (literal (at 0 0)
    written.True))) ∷ statement (local (at 0 0) false (codes "s") (Some (type.named (codes "String")
    type.types_end)) (some_expression (when (at 0 0) (some_expression (name (at 0 0) (codes "b")))
    (entry_then (entry (condition_then (equals (literal (at 0 0) written.True)) conditions_end)
    (single (evaluate (at 0 0) (template (at 0 0) parts_end))))
    (entry_then (entry (condition_then (equals (literal (at 0 0) written.False)) conditions_end)
    (single (evaluate (at 0 0) (template (at 0 0) parts_end)))) entries_end))))) ∷ []

both_truths : AreTyped both_truths_tree
unfolding type_of_name types function_of_name functions member_of members same_receiver
both_truths = (
  _,
  _,
  record {
    y = _;
    more = _;
    between = _;
    goes_on = _;
    first = record {
      typed = record {
        u = _;
        end = _;
        free = refl;
        value = record { typings = _; reads = (refl, refl); takes = refl };
        whole = refl;
        after = refl;
      };
      ends = refl;
    };
    rest = record {
      y = _;
      more = _;
      between = _;
      goes_on = _;
      first = record {
        typed = record {
          t = _;
          u = _;
          end = _;
          free = refl;
          means = refl;
          value = record {
            typings = _;
            reads = record {
              subject = _;
              between = _;
              evaluated = (refl, refl);
              rest = record {
                es = _;
                types = _;
                paths = _;
                whole = _;
                end = _;
                are = record {
                  xs = _;
                  holding = _;
                  x = _;
                  more = _;
                  later = _;
                  paths = _;
                  tested = _;
                  between = _;
                  asked = record {
                    x = _;
                    asks = _;
                    more = _;
                    later = _;
                    between = _;
                    first = record {
                      values = _;
                      chosen = _;
                      reads = (refl, refl);
                      first = inl (inr (refl, inl same), refl);
                      whole = refl;
                      question = refl;
                    };
                    rest = (refl, refl, refl);
                    whole = refl;
                    holds = refl;
                  };
                  done = record {
                    statements = _;
                    value = _;
                    end = _;
                    are = record {
                      u = _;
                      typed = record {
                        typings = _;
                        reads = record { all = _; end = _; are = (refl, refl); gives = (refl, refl) };
                        takes = inl (same, refl);
                      };
                      none = refl;
                      is_value = refl;
                    };
                    whole = refl;
                    left = refl;
                  };
                  rest = record {
                    xs = _;
                    holding = _;
                    x = _;
                    more = _;
                    later = _;
                    paths = _;
                    tested = _;
                    between = _;
                    asked = record {
                      x = _;
                      asks = _;
                      more = _;
                      later = _;
                      between = _;
                      first = record {
                        values = _;
                        chosen = _;
                        reads = (refl, refl);
                        first = inl (inr (refl, inl same), refl);
                        whole = refl;
                        question = refl;
                      };
                      rest = (refl, refl, refl);
                      whole = refl;
                      holds = refl;
                    };
                    done = record {
                      statements = _;
                      value = _;
                      end = _;
                      are = record {
                        u = _;
                        typed = record {
                          typings = _;
                          reads = record {
                            all = _;
                            end = _;
                            are = (refl, refl);
                            gives = (refl, refl);
                          };
                          takes = inl (same, refl);
                        };
                        none = refl;
                        is_value = refl;
                      };
                      whole = refl;
                      left = refl;
                    };
                    rest = (refl, refl, refl, refl);
                    whole = refl;
                    types = refl;
                    ways = refl;
                  };
                  whole = refl;
                  types = refl;
                  ways = refl;
                };
                enough = refl;
                has = refl;
                gives = (refl, refl);
              };
            };
            takes = inl (same, refl);
          };
          whole = refl;
          after = refl;
        };
        ends = refl;
      };
      rest = (refl, refl);
      whole = refl;
    };
    whole = refl;
  },
)

-- `val x: Any = 1`, `when (x) { is Int -> println(x + 1) }`
abbrev by_type_tree : List Direct
by_type_tree = statement (local (at 0 0) false (codes "x") (Some (type.named (codes "Any") type.types_end))
    (some_expression (number 1 false))) ∷ statement (evaluate (at 0 0) (when (at 0 0)
    (some_expression (name (at 0 0) (codes "x")))
    (entry_then (entry (condition_then (of_type false (type.named (codes "Int") type.types_end)) conditions_end)
    (single (evaluate (at 0 0) (call (at 0 0) (name (at 0 0) (codes "println")) (at 0 0)
    [] (expression_then (binary (at 0 0) o.Plus (name (at 0 0) (codes "x")) (number 1 false))
    expressions_end))))) entries_end))) ∷ []

by_type : AreTyped by_type_tree
unfolding type_of_name types function_of_name functions member_of members same_receiver
by_type = (
  _,
  _,
  record {
    y = _;
    more = _;
    between = _;
    goes_on = _;
    first = record {
      typed = record {
        t = _;
        u = _;
        end = _;
        free = refl;
        means = refl;
        value = record {
          typings = _;
          reads = (refl, refl);
          takes = inl (below_any tt, refl);
        };
        whole = refl;
        after = refl;
      };
      ends = refl;
    };
    rest = record {
      y = _;
      more = _;
      between = _;
      goes_on = _;
      first = record {
        typed = record {
          u = _;
          typed = record {
            typings = _;
            reads = record {
              subject = _;
              between = _;
              evaluated = (refl, refl);
              rest = record {
                es = _;
                types = _;
                paths = _;
                whole = _;
                end = _;
                are = record {
                  xs = _;
                  holding = _;
                  x = _;
                  more = _;
                  later = _;
                  paths = _;
                  tested = _;
                  between = _;
                  asked = record {
                    x = _;
                    asks = _;
                    more = _;
                    later = _;
                    between = _;
                    first = record {
                      tested = _;
                      means = refl;
                      allowed = refl;
                      whole = refl;
                      question = refl;
                      same = refl;
                    };
                    rest = (refl, refl, refl);
                    whole = refl;
                    holds = refl;
                  };
                  done = record {
                    statements = _;
                    value = _;
                    end = _;
                    are = record {
                      line = _;
                      lines = _;
                      between = _;
                      first = record {
                        u = _;
                        typed = record {
                          typings = _;
                          reads = record {
                            chosen = _;
                            values = _;
                            end = _;
                            is = refl;
                            are = record {
                              one = _;
                              others = _;
                              between = _;
                              first = record {
                                typings = _;
                                reads = record {
                                  lefts = _;
                                  rights = _;
                                  between = _;
                                  end = _;
                                  left = (
                                    refl,
                                    refl,
                                  );
                                  right = (refl, refl);
                                  gives = (refl, refl);
                                };
                                takes = refl;
                              };
                              rest = (refl, refl);
                              whole = refl;
                            };
                            gives = (refl, refl);
                          };
                          takes = refl;
                        };
                        whole = refl;
                      };
                      rest = record {
                        meets = tt;
                        none = refl;
                        no_value = refl;
                        same = refl;
                      };
                      whole = refl;
                    };
                    whole = refl;
                    left = refl;
                  };
                  rest = (refl, refl, refl, refl);
                  whole = refl;
                  types = refl;
                  ways = refl;
                };
                enough = tt;
                has = refl;
                gives = (refl, refl);
              };
            };
            takes = refl;
          };
          whole = refl;
        };
        ends = refl;
      };
      rest = (refl, refl);
      whole = refl;
    };
    whole = refl;
  },
)
