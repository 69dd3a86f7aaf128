pub mod InnerFaults
