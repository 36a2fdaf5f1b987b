use Rattle.class_headers.specs.Headers.{own_headers}
use Rattle.class_headers.proofs.Joined.{joined}
use Rattle.class_headers.proofs.making.headers_of_own.Goals as goal

pub returns : goal.returns
unfolding own_headers
returns c =
    joined _ _ _ _ _ _ _ _ c.in_ok-made.ensures c.in_ok-push.ensures.ok c.in_ok-push-2.ensures.ok
    c.in_ok-header_of_array.ensures c.in_ok-header_of_array-2.ensures
