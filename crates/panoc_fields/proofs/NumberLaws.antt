-- Numbers past those that are named, and numbers that come in as they went out. Assumes nothing.
use Rattle.std.proofs.Common.{◌≡◌, refl, sym, ℕ, ◌≤◌, Float}
use Rattle.std.proofs.Math.ListN.{get_or-eq_default}
use Rattle.std.proofs.Math.Option.{none}
use Rattle.machine.specs.Numbers.{replies, reply_of, phase_number, status_number}
use Rattle.panoc_engine.specs.declared.panoc_cache.Phase.{Phase}
use Rattle.panoc_engine.specs.declared.panoc_cache.Phase.TheVariants as P
use Rattle.panoc_engine.specs.declared.panoc_cache.ExitStatus.{ExitStatus}
use Rattle.panoc_engine.specs.declared.panoc_cache.ExitStatus.TheVariants as E
use Rattle.panoc_engine.specs.Values.{phase_of, status_of}
use Rattle.panoc_fields.specs.Fields.{phases, phase_at, statuses, status_at}

pub phase_past : (m : ℕ) → 17 ≤ m → P.Over ≡ phase_at m
phase_past m h = sym (get_or-eq_default phases _ {n = m} h)

pub status_past : (m : ℕ) → 2 ≤ m → E.NotConvergedOutOfTime ≡ status_at m
status_past m h = sym (get_or-eq_default statuses _ {n = m} h)

pub reply_past : (m : ℕ) (x : Float) (code : ℕ) → 5 ≤ m → none ≡ reply_of m x code
reply_past m x code h = sym (get_or-eq_default (replies x code) _ {n = m} h)

pub phase_back : (p : Phase) → phase_at (phase_number (phase_of p)) ≡ p
phase_back P.Over = refl
phase_back P.Cost = refl
phase_back P.Gradient = refl
phase_back P.Shifted = refl
phase_back P.Project = refl
phase_back P.HalfCost = refl
phase_back P.DoubledProject = refl
phase_back P.DoubledCost = refl
phase_back P.Direction = refl
phase_back P.FirstCost = refl
phase_back P.FirstGradient = refl
phase_back P.FirstProject = refl
phase_back P.TriedCost = refl
phase_back P.TriedGradient = refl
phase_back P.TriedProject = refl
phase_back P.Time = refl
phase_back P.LastCost = refl

pub status_back : (e : ExitStatus) → status_at (status_number (status_of e)) ≡ e
status_back E.Converged = refl
status_back E.NotConvergedIterations = refl
status_back E.NotConvergedOutOfTime = refl
