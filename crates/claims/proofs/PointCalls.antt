-- Lists of calls of the C functions are lists of calls on the store.
use Rattle.model.proofs.Prelude.{ℕ, List, [], ◌∷◌}
use Rattle.claims.proofs.Prelude.{returns}
use Rattle.points.specs.Returns.{Meets, Chain, left_by}
use Rattle.claims.specs.PointCalls.{PointCall, taking, going_back, calling, another, on_store, on_stores, MeetsPoint, PointChain, PointsReturn}

meets : (s : List ℕ) (c : PointCall) → MeetsPoint s c → Meets s (on_store c)
unfolding MeetsPoint Meets on_store
meets s (taking k p r t) h = h
meets s (going_back k p r q) h = h
meets s (calling g w c) h = tt
meets s another h = tt

chain : (s : List ℕ) (cs : List PointCall) → PointChain s cs → Chain s (on_stores cs)
unfolding PointChain Chain on_stores
chain s [] h = tt
chain s (c ∷ cs) h = (meets s c h.0, chain (left_by s (on_store c)) cs h.1)

pub points_return : PointsReturn
points_return = record {
  gives_back = λ s cs h. returns.gives_back s (on_stores cs) (chain s cs h);
  gives_at = λ s cs h. returns.gives_at s (on_stores cs) (chain s cs h);
  gives_not = λ s cs h. returns.gives_not s (on_stores cs) (chain s cs h);
  untouched = λ s cs h. returns.untouched s (on_stores cs) (chain s cs h);
  behind = λ s cs h. returns.behind s (on_stores cs) (chain s cs h);
  long = λ s cs h. returns.long s (on_stores cs) (chain s cs h);
}
